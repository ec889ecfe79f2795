-- Laws of a number's decimal digits, which are stored from the last one on. Assumes nothing.
use mathlib.Core.Path.{◌≡◌, refl, sym, subst, ◌∙◌}
use mathlib.Core.List.{List, [], ◌∷◌, ◌++◌, append_assoc, append-nil}
use Prim.Native.Nat.{ℕ, zero, suc, ◌+◌, ◌-◌, ◌/◌, ◌%◌, ◌^◌, ◌≤◌, ◌<◌}
use native.Mathlib.Omega.{arith}
use lib.ListN.{length, drop, set, length-set, drop_of_length-le}
use borrow.Author.Tests.{lt-ltb, le-ltb}
use Rattle.std.proofs.lemmas.List.{drop-set}
use Rattle.list_text.specs.Printed.{digits_in, decimal}

-- While the digits of n are stored, those of `rest` end before `first`, and the others stand from there on.
pub record Storing (n : ℕ) (digits : List ℕ) (first rest : ℕ) : Type 0 where
  pub size : length digits ≡ 20
  pub room : first ≤ 20
  pub small : rest < 10 ^ first
  pub text : digits_in first rest ++ drop first digits ≡ decimal n

-- 64 bits hold no number of more than 20 digits
pub storing_first : (n : ℕ) (digits : List ℕ) → n < 2 ^ 64 → length digits ≡ 20 → Storing n digits 20 n
unfolding decimal
storing_first n digits h size =
    let none : drop 20 digits ≡ [] = drop_of_length-le digits {i = 20} (omega arith) in
    record { size = size; room = omega arith; small = omega arith; text = rw (none, append-nil) }

-- a number's last digit
digits_split : (most n : ℕ) → 9 < n → digits_in (suc most) n ≡ digits_in most (n / 10) ++ ((48 + n % 10) ∷ [])
unfolding digits_in
digits_split most n h = rw (le-ltb n 10 (omega arith)) refl

digits_last : (most n : ℕ) → n ≤ 9 → digits_in (suc most) n ≡ (48 + n % 10) ∷ []
unfolding digits_in
digits_last most n h = let whole : n % 10 ≡ n = omega arith in rw (lt-ltb n 10 (omega arith), whole) refl

behind : (digits : List ℕ) (first v : ℕ) → length digits ≡ 20 → suc first ≤ 20 → drop first (set digits first v) ≡ v ∷ drop (suc first) digits
behind digits first v size room =
    let next : first + 1 ≡ suc first = omega arith in
    rw next at (drop-set digits first v (omega (arith, size, room)))

module _ {n : ℕ} {digits : List ℕ} {places rest : ℕ} (more : 0 < places) (storing : Storing n digits places rest) where
  abbrev first : ℕ
  first = places - 1

  s : Storing n digits (suc first) rest
  s = let e : places ≡ suc (places - 1) = omega arith in subst (λ k. Storing n digits k rest) e storing

  -- another digit stands before the last one of `rest`
  pub storing_on : 0 < rest / 10 → Storing n (set digits first (48 + rest % 10)) first (rest / 10)
  storing_on h =
      let v = 48 + rest % 10 in
      record {
        size = length-set digits first v ∙ s.size;
        room = omega (arith, s.room);
        small = omega (arith, s.small);
        text =
            rw (behind digits first v s.size s.room)
            (sym (append_assoc (digits_in first (rest / 10)) (v ∷ []) (drop (suc first) digits)) ∙ rw (digits_split first rest (omega arith)) at s.text);
      }

  pub storing_last : rest / 10 ≡ 0 → drop first (set digits first (48 + rest % 10)) ≡ decimal n
  storing_last h = behind digits first (48 + rest % 10) s.size s.room ∙ rw (digits_last first rest (omega arith)) at s.text

-- no place is left
pub storing_end : {n first rest : ℕ} {digits : List ℕ} → first ≤ 0 → Storing n digits first rest → digits ≡ decimal n
unfolding digits_in
storing_end {first = zero} k s = s.text
storing_end {first = suc first} k s = absurd (omega arith)
