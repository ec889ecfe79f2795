-- `chunk_grid::counts_test` meets its contract. Assumes nothing.
use Rattle.std.proofs.Common.{rules}
use Rattle.refusal.specs.Refusals.{◌then◌}
use Rattle.chunk_grid.specs.Values.{counts_test}
use Rattle.chunk_grid.proofs.Grids.{leading_le}
use Rattle.chunk_grid.proofs.counts_test.Goals as goal

pub multiplier_test-requires : goal.multiplier_test-requires
multiplier_test-requires c = rw c.leading.ensures (leading_le _ _)

pub returns-in_err-multiplier_test : goal.returns-in_err-multiplier_test
unfolding counts_test ◌then◌
returns-in_err-multiplier_test c = search rules

pub returns : goal.returns
unfolding counts_test ◌then◌
returns c = search rules
