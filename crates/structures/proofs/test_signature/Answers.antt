-- `structures::test_signature` meets its contract. Assumes nothing.
use mathlib.Core.Path.{refl, sym, ◌∙◌}
use borrow.Author.Tests.{eq-eqb, ne_eqb}
use Rattle.refusal.specs.Refusals.{refuse}
use Rattle.structures.specs.Structures.{signature_test}
use Rattle.structures.proofs.test_signature.Goals as goal

pub returns-in-Signed : goal.returns-in-Signed
unfolding signature_test refuse
returns-in-Signed c =
    rw (c.in-Signed.is, ne_eqb _ _ (λ e. c.if-read_u32_le_padded-signature.true (c.read_u32_le_padded.ensures ∙ e))) refl

pub returns-in_default : goal.returns-in_default
unfolding signature_test refuse
returns-in_default c =
    rw (c.in-Signed.is, eq-eqb _ _ (sym c.read_u32_le_padded.ensures ∙ c.if-read_u32_le_padded-signature.false)) refl

pub returns-in_default-2 : goal.returns-in_default-2
unfolding signature_test
returns-in_default-2 c = rw c.in_default.is refl
