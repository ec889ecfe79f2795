-- `ea_geometry::extents::Extents::super_pointer_at` meets its contract. Assumes nothing.
use native.Mathlib.Omega.{arith}
use Rattle.ea_geometry.specs.Extents.{super_pointer_at}
use Rattle.ea_geometry.proofs.Counts.{supers_few}
use Rattle.ea_geometry.proofs.Positions.{super_pointers_at_few}
use Rattle.ea_geometry.proofs.extents.Extents.super_pointer_at.Goals as goal

pub pointer_at-requires : goal.pointer_at-requires
pointer_at-requires c =
    let g = c.args.self in (
      omega (arith, c.super_pointers_at.ensures, super_pointers_at_few g.sizes.parameters g.offset_size c.args.self.legal (omega arith) (omega arith) c.args.self.sizes.served),
      omega (arith, supers_few g.sizes.parameters c.args.self.sizes.served),
    )

pub returns : goal.returns
unfolding super_pointer_at
returns c = rw (c.pointer_at.ensures, c.super_pointers_at.ensures, c.direct_super_blocks.ensures)
