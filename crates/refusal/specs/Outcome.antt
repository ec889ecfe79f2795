-- What a call comes to that lists something.
use Rattle.std.specs.Prelude.{ℕ, List, ◌∷◌, ltb, length, Ok, Err}
use Rattle.refusal.specs.declared.Refusal.TheVariants.{ListTooSmall}
use Rattle.refusal.specs.Refusals.{Outcome, Checked, refuse}

-- first the test: what follows counts only where it is passed
infixr 5 ◌yields◌
unfoldable pub ◌yields◌ : {A : Type 0} → Checked → Outcome A → Outcome A
Ok _ yields a = a
Err r yields a = Err r

-- one member in front of what is left
unfoldable pub also : {A : Type 0} → A → Outcome (List A) → Outcome (List A)
also x (Err r) = Err r
also x (Ok l) = Ok (x ∷ l)

-- Last 9, list too small (needed records), only when all of the list is accepted.
unfoldable pub in_room : {A : Type 0} → Outcome (List A) → ℕ → Outcome (List A)
in_room (Err r) room = Err r
in_room (Ok l) room = refuse (ListTooSmall (length l)) (ltb room (length l)) yields Ok l
