-- `fields::bytes::read_length` meets its contract. Assumes nothing.
use mathlib.Core.Path.{sym, ◌∙◌}
use Rattle.std.proofs.Common.{rules}
use Rattle.refusal.specs.Outcome.{◌yields◌}
use Rattle.refusal.specs.Refusals.{◌then◌}
use Rattle.fields.specs.Values.{length_field, field_test}
use Rattle.fields.proofs.Fields.{inside, width_is}
use Rattle.fields.proofs.Widths.{width_le}
use Rattle.fields.proofs.bytes.read_length.Goals as goal

pub returns-in_err-ensure_length_size : goal.returns-in_err-ensure_length_size
unfolding length_field field_test ◌yields◌ ◌then◌
returns-in_err-ensure_length_size c = search rules

pub returns-in_err-ensure_len : goal.returns-in_err-ensure_len
unfolding length_field field_test ◌yields◌ ◌then◌
returns-in_err-ensure_len c = search rules

pub read_le-requires : goal.read_le-requires
read_le-requires c = (inside _ _ _ (sym c.in_ok-ensure_len.was ∙ c.ensure_len.ensures), width_le _ (width_is _ _ (sym c.ensure_length_size.ensures ∙ c.in_ok-ensure_length_size.was)))

pub returns : goal.returns
unfolding length_field field_test ◌yields◌ ◌then◌
returns c = search rules
