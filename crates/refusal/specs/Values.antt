-- What the code's values stand for.
use Rattle.std.specs.Prelude.{ℕ, ◌+◌, List, length, Ok, Err}
use Rattle.refusal.specs.Refusals.{Outcome}

-- What counting the members of a list answers: how many they are, or the refusal.
unfoldable pub counted_of : {A : Type 0} → Outcome (List A) → Outcome ℕ
counted_of (Err r) = Err r
counted_of (Ok l) = Ok (length l)

-- the number of members, with n that are counted already, or the refusal
unfoldable pub plus : {A : Type 0} → ℕ → Outcome (List A) → Outcome ℕ
plus n (Err r) = Err r
plus n (Ok l) = Ok (n + length l)
