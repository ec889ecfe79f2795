-- `ea_blocks::tests::test_array` meets its contract. Assumes nothing.
use mathlib.Core.Path.{sym, ◌∙◌}
use Rattle.std.proofs.Common.{rules}
use Rattle.refusal.specs.Refusals.{◌then◌}
use Rattle.ea_header.proofs.Served.{tested_serves}
use Rattle.ea_blocks.specs.Structures.{array_test}
use Rattle.ea_blocks.proofs.tests.test_array.Goals as goal

pub returns-in_err-served_test : goal.returns-in_err-served_test
unfolding array_test ◌then◌
returns-in_err-served_test c = search rules

pub test_index_block-requires : goal.test_index_block-requires
test_index_block-requires c = tested_serves _ (sym c.served_test.ensures ∙ c.in_ok-served_test.was)

pub returns : goal.returns
unfolding array_test ◌then◌
returns c = search rules
