-- `ea_geometry::sizes::Sizes::super_pointers` meets its contract. Assumes nothing.
use native.Mathlib.Omega.{arith}
use Rattle.ea_geometry.specs.Sizes.{super_pointers}
use Rattle.ea_geometry.proofs.Counts.{direct_le}
use Rattle.ea_geometry.proofs.sizes.Sizes.super_pointers.Goals as goal

pub overflow_sub-result : goal.overflow_sub-result
overflow_sub-result c = omega (arith, direct_le c.args.self.parameters, c.super_blocks.ensures, c.direct_super_blocks.ensures)

pub returns : goal.returns
unfolding super_pointers
returns c = rw (c.super_blocks.ensures, c.direct_super_blocks.ensures)
