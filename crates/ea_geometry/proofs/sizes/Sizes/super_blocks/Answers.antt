-- `ea_geometry::sizes::Sizes::super_blocks` meets its contract. Assumes nothing.
use native.Mathlib.Omega.{arith}
use Rattle.ea_geometry.specs.Sizes.{super_blocks}
use Rattle.ea_geometry.proofs.sizes.Sizes.super_blocks.Goals as goal

pub returns : goal.returns
unfolding super_blocks
returns c = omega (arith, c.saturating_sub.ensures)
