-- What every call from C answers: one number, of those that its answer has.
use Rattle.std.specs.Prelude.{ℕ, ◌≡◌, List, [], ◌∷◌, length, get_or, replicate, Err, None, Ok, Option, Some}
use Rattle.index.specs.Index.{Rec}
use Rattle.refusal.specs.Refusals.{Outcome}
use Rattle.refusal.specs.Numbers.{number_of, first_of, second_of}

-- The numbers of an answer: those of the refusal (its number and two figures, all 0 where the call is accepted), then
-- those that the call names. After a refusal the named numbers, this many, are 0.
unfoldable pub answered : {A : Type 0} → ℕ → (A → List ℕ) → Outcome A → List ℕ
answered names numbers (Err r) = number_of r ∷ first_of r ∷ second_of r ∷ replicate names 0
answered names numbers (Ok x) = 0 ∷ 0 ∷ 0 ∷ numbers x

-- An argument asks for one of them by its place; where there is none at that place, for the refusal's number.
unfoldable pub picked : ℕ → List ℕ → ℕ
picked which answer = get_or answer which (get_or answer 0 0)

-- A list names its count.
unfoldable pub list_numbers : {A : Type 0} → List A → List ℕ
list_numbers l = length l ∷ []

-- A chunk that is looked up names its count, 1 for a record and 0 for absent, then the record's address, size and mask.
unfoldable pub found_numbers : Option Rec → List ℕ
found_numbers None = 0 ∷ []
found_numbers (Some r) = 1 ∷ r.entry.address ∷ r.entry.size ∷ r.entry.mask ∷ []

-- The calls that list and look up chunks name four numbers: the count, and of the chunk that was looked up the
-- address, size and mask.
abbrev pub chunk_names : ℕ
chunk_names = 4

-- What the number 0 says where the refusal was asked for: the call is accepted.
abbrev pub ZeroAccepts : {A : Type 0} → Outcome A → ℕ → ℕ → Type 0
ZeroAccepts {A} a which number = which ≡ 0 → number ≡ 0 → (x : A) × (a ≡ Ok x)
