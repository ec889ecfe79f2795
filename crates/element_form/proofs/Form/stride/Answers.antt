-- `element_form::Form::stride` meets its contract. Assumes nothing.
use mathlib.Core.Path.{sym, ◌∙◌}
use Rattle.element_form.proofs.Forms.{stride-plain, stride-filtered}
use Rattle.element_form.proofs.Form.stride.Goals as goal

pub returns-then-is_filtered : goal.returns-then-is_filtered
returns-then-is_filtered c = sym (stride-filtered _ (sym c.is_filtered.ensures ∙ c.if-is_filtered.true))

pub returns : goal.returns
returns c = sym (stride-plain _ (sym c.is_filtered.ensures ∙ c.if-is_filtered.false))
