-- `chunk_grid::product_test` meets its contract. Assumes nothing.
use mathlib.Core.Path.{◌≡◌}
use lib.ListN.{drop}
use Rattle.chunk_grid.specs.Grid.{product_test}
use Rattle.chunk_grid.proofs.product_test.Given as goal

abbrev pub invariant-loop-count : goal.invariant-loop-count
invariant-loop-count l = product_test l.product (drop l.count-index l.counts) ≡ product_test 1 l.counts
