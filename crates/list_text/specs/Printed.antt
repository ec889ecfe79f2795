-- The text of a list and of a refusal.
use Rattle.std.specs.Prelude.{ℕ, zero, suc, ◌+◌, ◌/◌, ◌%◌, ◌≡◌, cond, List, [], ◌∷◌, ◌++◌, ltb, length}
use Rattle.std.proofs.lemmas.List.Edits.{sets}
use Rattle.refusal.specs.declared.Refusal.{Refusal}
use Rattle.refusal.specs.Numbers.{number_of, first_of, second_of}
use Rattle.index.specs.Index.{Rec}

-- A text is put into a buffer at a place: where it ends, and what the buffer holds then.
pub record Put (out : List ℕ) (at : ℕ) (text out' : List ℕ) (end : ℕ) : Type 0 where
  pub ends : end ≡ at + length text
  pub holds : out' ≡ sets out at text

-- the digits of a number below 10^20, without zeros in front
unfoldable pub digits_in : ℕ → ℕ → List ℕ
digits_in zero n = []
digits_in (suc most) n = cond (ltb n 10) ((48 + n) ∷ []) (digits_in most (n / 10) ++ ((48 + n % 10) ∷ []))

unfoldable pub decimal : ℕ → List ℕ
decimal n = digits_in 20 n

-- numbers in decimal digits, each behind a space (32)
unfoldable pub spaced : List ℕ → List ℕ
spaced [] = []
spaced (n ∷ ns) = 32 ∷ (decimal n ++ spaced ns)

-- A line `address size mask offsets..` is printed for a record, ..
unfoldable pub record_line : Rec → List ℕ
record_line r = decimal r.entry.address ++ spaced (r.entry.size ∷ r.entry.mask ∷ r.corner) ++ 10 ∷ []

unfoldable pub record_lines : List Rec → List ℕ
record_lines [] = []
record_lines (r ∷ l) = record_line r ++ record_lines l

-- .. and then `records N`;
abbrev pub records_word : List ℕ
records_word = 114 ∷ 101 ∷ 99 ∷ 111 ∷ 114 ∷ 100 ∷ 115 ∷ []

unfoldable pub list_text : List Rec → List ℕ
list_text l = record_lines l ++ records_word ++ spaced (length l ∷ []) ++ 10 ∷ []

-- for a refusal `refused`, its number and its two figures.
abbrev pub refused_word : List ℕ
refused_word = 114 ∷ 101 ∷ 102 ∷ 117 ∷ 115 ∷ 101 ∷ 100 ∷ []

unfoldable pub refusal_text : Refusal → List ℕ
refusal_text r = refused_word ++ spaced (number_of r ∷ first_of r ∷ second_of r ∷ []) ++ 10 ∷ []
