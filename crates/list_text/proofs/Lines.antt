-- Laws of the texts of numbers and of records. Assumes nothing.
use mathlib.Core.Path.{◌≡◌, refl, sym, ap, ◌∙◌}
use mathlib.Core.List.{List, [], ◌∷◌, ◌++◌, append_assoc, append-nil}
use Prim.Native.Nat.{ℕ, zero, suc, ◌+◌, ◌-◌, ◌*◌, ◌/◌, ◌≤◌, ◌<◌}
use native.Mathlib.Omega.{arith}
use lib.ListN.{length, take, drop, length-append, length-take, length-drop}
use lib.Seq.{drop-drop, drop-append_seam}
use Rattle.std.proofs.lemmas.List.{take-append-le, take-append-drop}
use Rattle.fields.specs.LittleEndian.{le_at}
use Rattle.shapes.specs.Shapes.{numbers_in}
use Rattle.records.specs.Records.{record_length}
use Rattle.records.specs.Records.{record_in, records_in}
use Rattle.list_text.specs.Printed.{decimal, spaced, record_line, record_lines, records_word, list_text}

-- a number in a part of a list
at_part : (s : List ℕ) (from pos w : ℕ) → le_at (drop from s) pos w ≡ le_at s (from + pos) w
unfolding le_at
at_part s from pos w = rw (drop-drop pos from s) refl

-- the number that a list of 8 bytes begins with, whatever follows it
at_front : (x l : List ℕ) → length x ≡ 8 → le_at (x ++ l) 0 8 ≡ le_at x 0 8
unfolding le_at
at_front x l h = rw (take-append-le 8 x l (omega (arith, h))) refl

-- n numbers, as the part of a list that holds them, with what comes behind it
pub offsets_first : (l : List ℕ) (from n : ℕ) → from + 8 * n ≤ length l → (s : List ℕ) → s ≡ take (from + 8 * n - from) (drop from l)
    → (length s / 8 ≡ n) × (s ++ drop (from + 8 * n) l ≡ drop from l)
offsets_first l from n h s e =
    let wide : from + 8 * n - from ≡ 8 * n = omega arith in
    let part : s ≡ take (8 * n) (drop from l) = rw wide at e in
    let long : length s ≡ 8 * n = rw (part, length-take, length-drop) (omega arith) in
    (omega arith, rw part (rw (← drop-drop (8 * n) from l) (take-append-drop (8 * n) (drop from l))))

-- the next of the numbers in s, behind a space
pub offsets_on : (s x rest tail : List ℕ) → s ≡ x ++ rest → length x ≡ 8
    → (length s / 8 ≡ suc (length rest / 8))
    × (spaced (numbers_in (length s / 8) (s ++ tail)) ≡ (32 ∷ decimal (le_at x 0 8)) ++ spaced (numbers_in (length rest / 8) (rest ++ tail)))
unfolding numbers_in spaced
offsets_on s x rest tail e k =
    let long : length s ≡ length x + length rest = ap length e ∙ length-append x rest in
    let more : length s / 8 ≡ suc (length rest / 8) = omega arith in
    let parts : s ++ tail ≡ x ++ (rest ++ tail) = ap (λ t. t ++ tail) e ∙ append_assoc x rest tail in
    let behind : drop 8 (x ++ (rest ++ tail)) ≡ rest ++ tail = ap (λ n. drop n (x ++ (rest ++ tail))) (sym k) ∙ drop-append_seam x (rest ++ tail) in
    (more, rw (more, parts, behind, at_front x (rest ++ tail) k) refl)

pub offsets_end : (s tail : List ℕ) → length s < 8 → (length s / 8 ≡ 0) × (spaced (numbers_in (length s / 8) (s ++ tail)) ≡ [])
unfolding numbers_in spaced
offsets_end s tail h =
    let none : length s / 8 ≡ 0 = omega arith in
    (none, rw none refl)

-- a record's line, part by part
pub record_parts : (s : List ℕ) (from rank : ℕ) → decimal (le_at s from 8) ++ ((32 ∷ decimal (le_at s (from + 8) 4)) ++ ((32 ∷ decimal (le_at s (from + 12) 4)) ++ (spaced (numbers_in rank (drop (from + 16) s)) ++ 10 ∷ [])))
    ≡ record_line (record_in rank (drop from s))
unfolding record_line record_in spaced
record_parts s from rank =
    let here : from + 0 ≡ from = omega arith in
    rw (at_part s from 0 8, at_part s from 8 4, at_part s from 12 4, drop-drop 16 from s, here) (simp append_assoc)

-- records, one by one
module _ (s : List ℕ) (rank n i : ℕ) where
  pub records_on : i < n → record_lines (records_in rank (n - i) (drop (i * record_length rank) s))
      ≡ record_line (record_in rank (drop (i * record_length rank) s)) ++ record_lines (records_in rank (n - (i + 1)) (drop ((i + 1) * record_length rank) s))
  unfolding records_in record_lines record_length
  records_on h =
      let more : n - i ≡ suc (n - (i + 1)) = omega arith in
      let next : i * (16 + 8 * rank) + (16 + 8 * rank) ≡ (i + 1) * (16 + 8 * rank) = omega arith in
      rw (more, drop-drop (16 + 8 * rank) (i * (16 + 8 * rank)) s, next) refl

  pub room_on : i < n → n * record_length rank ≤ length s → i * record_length rank + record_length rank ≤ length s
  unfolding record_length
  room_on h k =
      let more : n ≡ i + 1 + (n - (i + 1)) = omega arith in
      let split : (i + 1 + (n - (i + 1))) * (16 + 8 * rank) ≡ i * (16 + 8 * rank) + (16 + 8 * rank) + (n - (i + 1)) * (16 + 8 * rank) = omega arith in
      omega (arith, rw split at (rw more at k))

  pub records_none : n ≤ i → record_lines (records_in rank (n - i) (drop (i * record_length rank) s)) ≡ []
  unfolding records_in record_lines
  records_none h =
      let none : n - i ≡ 0 = omega arith in
      rw none refl

length-records : (rank n : ℕ) (s : List ℕ) → length (records_in rank n s) ≡ n
unfolding records_in
length-records rank zero s = refl
length-records rank (suc n) s = ap suc (length-records rank n (drop (record_length rank) s))

-- a list's text, part by part
pub list_parts : (rank n : ℕ) (s : List ℕ) → record_lines (records_in rank n s) ++ (records_word ++ ((32 ∷ decimal n) ++ 10 ∷ [])) ≡ list_text (records_in rank n s)
unfolding list_text spaced
list_parts rank n s = rw (length-records rank n s) (simp (append_assoc, append-nil))
