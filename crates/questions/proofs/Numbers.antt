-- Laws of a number that is read digit by digit. Assumes nothing.
use mathlib.Core.Path.{◌≡◌, refl}
use mathlib.Core.Bool.{true, false, cond, ◌&&◌, and-false}
use mathlib.Core.List.{List, [], ◌∷◌}
use Prim.Native.Nat.{ℕ, suc, ◌+◌, ◌-◌, ◌*◌, ◌≤◌, ◌<◌}
use native.Mathlib.Omega.{arith}
use lib.ListN.{length, get_or, drop, drop_of_length-le}
use lib.Seq.{drop-cons}
use lib.Dec.{leb}
use borrow.Author.Tests.{lt-ltb, lt-leb}
use Rattle.std.specs.Prelude.{None, Option, Some}
use Rattle.questions.specs.Text.{is_digit, digits_only, value_from, value_of, is_number, number_of}

-- what the digits w come to behind digits of the value v
unfoldable pub number_from : ℕ → ℕ → List ℕ → Option ℕ
number_from largest v w = cond (digits_only w && leb (value_from v w) largest) (Some (value_from v w)) None

-- further digits make no number less
value_grows : (v : ℕ) (w : List ℕ) → v ≤ value_from v w
unfolding value_from
value_grows v [] = omega arith
value_grows v (b ∷ w) = omega (arith, value_grows (v * 10 + (b - 48)) w)

module _ (largest : ℕ) (w : List ℕ) where
  pub number_empty : length w ≡ 0 → None ≡ number_of largest w
  unfolding number_of is_number
  number_empty e = rw e refl

  pub number_start : 0 < length w → number_from largest 0 (drop 0 w) ≡ number_of largest w
  unfolding number_of number_from is_number value_of
  number_start h = rw (lt-ltb 0 (length w) h) refl

  module _ (v i : ℕ) where
    pub number_end : length w ≤ i → number_from largest v (drop i w) ≡ cond (leb v largest) (Some v) None
    unfolding number_from digits_only value_from
    number_end h = rw (drop_of_length-le w {i = i} h) refl

    -- a digit is read
    pub number_on : i < length w → is_digit (get_or w i 0) ≡ true
        → number_from largest (v * 10 + (get_or w i 0 - 48)) (drop (i + 1) w) ≡ number_from largest v (drop i w)
    unfolding number_from digits_only value_from
    number_on h e =
        let next : i + 1 ≡ suc i = omega arith in
        rw (next, drop-cons w i 0 h, e) refl

    -- another byte
    pub number_other : i < length w → is_digit (get_or w i 0) ≡ false → None ≡ number_from largest v (drop i w)
    unfolding number_from digits_only
    number_other h e = rw (drop-cons w i 0 h, e) refl

    -- a digit that makes the number too large
    pub number_over : i < length w → largest < v * 10 + (get_or w i 0 - 48) → None ≡ number_from largest v (drop i w)
    unfolding number_from value_from
    number_over h z =
        let more = v * 10 + (get_or w i 0 - 48) in
        let grown = value_grows more (drop (suc i) w) in
        rw (drop-cons w i 0 h, lt-leb (value_from more (drop (suc i) w)) largest (omega (arith, grown)), and-false (digits_only (get_or w i 0 ∷ drop (suc i) w))) refl
