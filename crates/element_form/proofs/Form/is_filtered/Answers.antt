-- `element_form::Form::is_filtered` meets its contract. Assumes nothing.
use Rattle.element_form.specs.Form.{filtered}
use mathlib.Core.Path.{refl}
use Rattle.element_form.proofs.Form.is_filtered.Goals as goal

pub returns : goal.returns
unfolding filtered
returns c = refl
