-- `element_form::Form::test` meets its contract. Assumes nothing.
use Rattle.std.proofs.Common.{rules}
use Rattle.refusal.specs.Refusals.{◌then◌}
use Rattle.element_form.specs.Form.{element_size_test}
use Rattle.element_form.proofs.Form.test.Goals as goal

pub returns-in_err-test_room : goal.returns-in_err-test_room
unfolding element_size_test ◌then◌
returns-in_err-test_room c = search rules

pub returns : goal.returns
unfolding element_size_test ◌then◌
returns c = search rules
