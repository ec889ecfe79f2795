-- `fields::bytes::read_offset` meets its contract. Assumes nothing.
use mathlib.Core.Path.{sym, ◌∙◌}
use Rattle.std.proofs.Common.{rules}
use Rattle.refusal.specs.Outcome.{◌yields◌}
use Rattle.refusal.specs.Refusals.{◌then◌}
use Rattle.fields.specs.Values.{offset_field, field_test}
use Rattle.fields.proofs.Fields.{inside, width_is}
use Rattle.fields.proofs.bytes.read_offset.Goals as goal

pub returns-in_err-ensure_offset_size : goal.returns-in_err-ensure_offset_size
unfolding offset_field field_test ◌yields◌ ◌then◌
returns-in_err-ensure_offset_size c = search rules

pub returns-in_err-ensure_len : goal.returns-in_err-ensure_len
unfolding offset_field field_test ◌yields◌ ◌then◌
returns-in_err-ensure_len c = search rules

pub read_address-address-requires : goal.read_address-address-requires
read_address-address-requires c = (inside _ _ _ (sym c.in_ok-ensure_len.was ∙ c.ensure_len.ensures), width_is _ _ (sym c.ensure_offset_size.ensures ∙ c.in_ok-ensure_offset_size.was))

pub returns : goal.returns
unfolding offset_field field_test ◌yields◌ ◌then◌
returns c = search rules
