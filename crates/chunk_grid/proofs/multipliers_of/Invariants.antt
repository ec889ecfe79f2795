-- `chunk_grid::multipliers_of` meets its contract: the loop has what `Behind` says. Assumes nothing.
use mathlib.Core.Path.{◌≡◌}
use lib.ListN.{length}
use Rattle.chunk_grid.specs.Grid.{to_front}
use Rattle.chunk_grid.proofs.Building.{Behind}
use Rattle.chunk_grid.proofs.multipliers_of.Given as goal

abbrev pub invariant-loop-i : goal.invariant-loop-i
invariant-loop-i l = (length l.down ≡ length l.counts) × Behind (to_front l.rotated l.counts) l.i l.numbers l.down
