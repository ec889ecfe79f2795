-- `ea_geometry::extents::Extents::element_at` meets its contract. Assumes nothing.
use Prim.Native.Nat.{◌+◌, ◌*◌, ◌≤◌}
use native.Mathlib.Omega.{arith}
use Rattle.ea_geometry.specs.Extents.{element_at}
use Rattle.ea_geometry.proofs.Positions.{element_at_le}
use Rattle.ea_geometry.proofs.extents.Extents.element_at.Goals.{After-element_stride}
use Rattle.ea_geometry.proofs.extents.Extents.element_at.Goals as goal

bounded : (c : After-element_stride) → c.args.first + c.args.i * c.element_stride.result ≤ c.args.first + 255 * c.args.i
unfolding element_at
bounded c =
    let a = c.args in
    rw c.element_stride.ensures (element_at_le a.self.sizes.parameters a.self.offset_size c.args.self.legal (omega arith) a.first a.i)

pub overflow_mul-result : goal.overflow_mul-result
overflow_mul-result c = omega (arith, bounded (goal.at.overflow_mul-result c).After-element_stride)

pub overflow_add-result : goal.overflow_add-result
overflow_add-result c = omega (arith, bounded (goal.at.overflow_add-result c).After-element_stride)

pub returns : goal.returns
unfolding element_at
returns c = rw c.element_stride.ensures
