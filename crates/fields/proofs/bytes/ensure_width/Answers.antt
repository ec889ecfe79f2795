-- `fields::bytes::ensure_width` meets its contract. Assumes nothing.
use mathlib.Core.Path.{sym, ◌∙◌}
use Rattle.fields.proofs.Fields.{width_passed, width_refused}
use Rattle.fields.proofs.bytes.ensure_width.Goals as goal

pub returns-then-is_width : goal.returns-then-is_width
returns-then-is_width c = width_passed _ _ (sym c.is_width.ensures ∙ c.if-is_width.true)

pub returns-else-is_width : goal.returns-else-is_width
returns-else-is_width c = width_refused _ _ (sym c.is_width.ensures ∙ c.if-is_width.false)
