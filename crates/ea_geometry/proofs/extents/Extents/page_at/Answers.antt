-- `ea_geometry::extents::Extents::page_at` meets its contract. Assumes nothing.
use Prim.Native.Nat.{◌+◌, ◌*◌, ◌≤◌}
use native.Mathlib.Omega.{arith}
use Rattle.ea_geometry.specs.Sizes.{page_elements}
use Rattle.ea_geometry.specs.Extents.{page_at}
use Rattle.ea_geometry.proofs.Positions.{page_at_le}
use Rattle.ea_geometry.proofs.extents.Extents.page_at.Goals.{After-page_extent}
use Rattle.ea_geometry.proofs.extents.Extents.page_at.Goals as goal

bounded : (c : After-page_extent) → c.paged_head_extent.result + c.args.p * c.page_extent.result ≤ 26 + 259 * (c.args.p * page_elements c.args.self.sizes.parameters)
unfolding page_at
bounded c =
    let g = c.args.self in
    rw (c.paged_head_extent.ensures, c.page_extent.ensures) (page_at_le g.sizes.parameters g.offset_size c.args.self.legal (omega arith) c.args.self.sizes.served c.args.p)

pub overflow_mul-result : goal.overflow_mul-result
overflow_mul-result c = omega (arith, bounded (goal.at.overflow_mul-result c).After-page_extent)

pub overflow_add-result : goal.overflow_add-result
overflow_add-result c = omega (arith, bounded (goal.at.overflow_add-result c).After-page_extent)

pub returns : goal.returns
unfolding page_at
returns c = rw (c.paged_head_extent.ensures, c.page_extent.ensures)
