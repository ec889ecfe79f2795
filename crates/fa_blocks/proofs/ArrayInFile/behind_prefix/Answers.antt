-- `fa_blocks::ArrayInFile::behind_prefix` meets its contract. Assumes nothing.
use native.Mathlib.Omega.{arith}
use Rattle.refusal.specs.Refusals.{figure}
use Rattle.fa_blocks.proofs.FixedBlocks.{prefix_inside}
use Rattle.fa_blocks.proofs.ArrayInFile.behind_prefix.Goals as goal

pub overflow_add-result : goal.overflow_add-result
unfolding figure
overflow_add-result c = omega (arith, c.prefix.ensures, prefix_inside _ c.requires)

pub returns : goal.returns
unfolding figure
returns c = omega (arith, c.prefix.ensures, prefix_inside _ c.requires)
