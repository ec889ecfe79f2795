-- `structures::header::test_sizes` meets its contract. Assumes nothing.
use Rattle.std.proofs.Common.{rules}
use Rattle.refusal.specs.Refusals.{◌then◌}
use Rattle.structures.specs.Header.{sizes_test}
use Rattle.structures.proofs.header.test_sizes.Goals as goal

pub returns-in_err-ensure_length_size : goal.returns-in_err-ensure_length_size
unfolding sizes_test ◌then◌
returns-in_err-ensure_length_size c = search rules

pub returns : goal.returns
unfolding sizes_test ◌then◌
returns c = search rules
