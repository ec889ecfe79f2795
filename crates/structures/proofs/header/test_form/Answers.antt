-- `structures::header::test_form` meets its contract. Assumes nothing.
use borrow.Author.Tests.{eq-eqb, ne_eqb}
use Rattle.std.proofs.Common.{rules}
use Rattle.refusal.specs.Refusals.{refuse, ◌then◌}
use Rattle.structures.specs.Header.{form_test}
use Rattle.structures.proofs.header.test_form.Goals as goal

pub returns-in_err-test_signature : goal.returns-in_err-test_signature
unfolding form_test ◌then◌
returns-in_err-test_signature c = search rules

pub returns-then-version-eq0 : goal.returns-then-version-eq0
unfolding form_test refuse ◌then◌
returns-then-version-eq0 c = let e = eq-eqb _ 0 c.if-version-eq0.true in search rules

pub returns-else-version-eq0 : goal.returns-else-version-eq0
unfolding form_test refuse ◌then◌
returns-else-version-eq0 c = let e = ne_eqb _ 0 c.if-version-eq0.false in search rules
