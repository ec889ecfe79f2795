-- `ea_geometry::extents::Extents::super_pointers_at` meets its contract. Assumes nothing.
use native.Mathlib.Omega.{arith}
use Rattle.ea_geometry.specs.Extents.{super_pointers_at}
use Rattle.ea_geometry.proofs.Counts.{direct_pointers_few}
use Rattle.ea_geometry.proofs.Positions.{direct_pointers_at_few}
use Rattle.ea_geometry.proofs.extents.Extents.super_pointers_at.Goals as goal

pub pointer_at-requires : goal.pointer_at-requires
pointer_at-requires c =
    let g = c.args.self in
    (omega (arith, c.direct_pointers_at.ensures, direct_pointers_at_few g.sizes.parameters g.offset_size c.args.self.legal (omega arith) (omega arith)), omega (arith, c.direct_pointers.ensures, direct_pointers_few g.sizes.parameters c.args.self.sizes.served))

pub returns : goal.returns
unfolding super_pointers_at
returns c = rw (c.pointer_at.ensures, c.direct_pointers_at.ensures, c.direct_pointers.ensures)
