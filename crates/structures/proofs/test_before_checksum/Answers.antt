-- `structures::test_before_checksum` meets its contract. Assumes nothing.
use Rattle.std.proofs.Common.{rules}
use Rattle.refusal.specs.Refusals.{◌then◌}
use Rattle.structures.proofs.test_before_checksum.Goals as goal

pub returns-in_err-ensure_len : goal.returns-in_err-ensure_len
unfolding ◌then◌
returns-in_err-ensure_len c = search rules

pub returns : goal.returns
unfolding ◌then◌
returns c = search rules
