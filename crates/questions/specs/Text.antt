-- Text: lines, words and numbers.
use Rattle.std.specs.Prelude.{None, Option, Some}
use Rattle.std.specs.Prelude.{ℕ, ◌+◌, ◌-◌, ◌*◌, Bool, true, cond, ◌&&◌, List, [], ◌∷◌, eqb, leb, ltb, length, get_or}

-- the bytes before the first b, or all where there is none
unfoldable pub before : ℕ → List ℕ → List ℕ
before b [] = []
before b (x ∷ s) = cond (eqb x b) [] (x ∷ before b s)

-- Words are parted by single spaces (32): between two spaces that follow each other stands an empty word.
unfoldable pub on_first : ℕ → List (List ℕ) → List (List ℕ)
on_first x [] = []
on_first x (w ∷ ws) = (x ∷ w) ∷ ws

unfoldable pub words : List ℕ → List (List ℕ)
words [] = [] ∷ []
words (x ∷ s) = cond (eqb x 32) ([] ∷ words s) (on_first x (words s))

-- the word of this one byte
unfoldable pub is_only : ℕ → List ℕ → Bool
is_only b w = eqb (length w) 1 && eqb (get_or w 0 0) b

-- Numbers are digits, at least one, ..
unfoldable pub is_digit : ℕ → Bool
is_digit b = leb 48 b && leb b 57

unfoldable pub digits_only : List ℕ → Bool
digits_only [] = true
digits_only (b ∷ w) = is_digit b && digits_only w

-- .. the most significant first: the value of the digits w behind digits of the value v
unfoldable pub value_from : ℕ → List ℕ → ℕ
value_from v [] = v
value_from v (b ∷ w) = value_from (v * 10 + (b - 48)) w

unfoldable pub value_of : List ℕ → ℕ
value_of w = value_from 0 w

-- a number that is `largest` at most
unfoldable pub is_number : ℕ → List ℕ → Bool
is_number largest w = ltb 0 (length w) && digits_only w && leb (value_of w) largest

unfoldable pub number_of : ℕ → List ℕ → Option ℕ
number_of largest w = cond (is_number largest w) (Some (value_of w)) None
