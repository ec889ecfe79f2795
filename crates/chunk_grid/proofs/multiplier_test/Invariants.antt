-- `chunk_grid::multiplier_test` meets its contract: the loop has what `Tested` says. Assumes nothing.
use Rattle.chunk_grid.specs.Grid.{to_front}
use Rattle.chunk_grid.proofs.Building.{Tested}
use Rattle.chunk_grid.proofs.multiplier_test.Given as goal

abbrev pub invariant-loop-i : goal.invariant-loop-i
invariant-loop-i l = Tested (to_front l.rotated l.counts) l.i l.multiplier
