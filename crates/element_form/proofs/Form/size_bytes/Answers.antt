-- `element_form::Form::size_bytes` meets its contract. Assumes nothing.
use native.Mathlib.Omega.{arith}
use Rattle.element_form.specs.Form.{size_bytes}
use Rattle.element_form.proofs.Forms.{sized-filtered}
use Rattle.element_form.proofs.Form.size_bytes.Goals as goal

pub overflow_sub-result : goal.overflow_sub-result
overflow_sub-result c = omega (arith, sized-filtered _ c.requires.0 c.requires.1)

pub overflow_sub-result-2 : goal.overflow_sub-result-2
overflow_sub-result-2 c = omega (arith, sized-filtered _ c.requires.0 c.requires.1)

pub returns : goal.returns
unfolding size_bytes
returns c = omega arith
