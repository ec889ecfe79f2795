-- Laws of the little-endian number in a part of a byte string. Assumes nothing.
use mathlib.Core.Path.{◌≡◌, refl, sym, ap, ◌∙◌}
use mathlib.Core.List.{List, [], ◌∷◌, ◌++◌}
use Prim.Native.Nat.{ℕ, zero, suc, ◌+◌, ◌*◌, ◌^◌, ◌<◌, ◌≤◌, ◌-◌}
use native.Mathlib.Nat.{mul-suc, zero-add, sub_self, sub-zero, add-zero}
use native.Mathlib.Numerals.{add-one}
use native.Mathlib.Omega.{arith}
use mathlib.Core.Logic.{⊎_elim}
use Rattle.refusal.proofs.Tests.{lt_or_ge}
use lib.ListN.{length, get_or, take, drop, length-append, length-drop, drop_of_length-le}
use lib.Seq.{drop-cons, take-nil, take_all, take_at, length-take-le, get_or-append_seam}
use Rattle.std.proofs.lemmas.List.{get_or-take, get_or-drop, take-take}
use lib.Pow.{pow-add, pow_mono, pow_pos}
use Rattle.std.specs.Int.{w16, w32, w64, from_le_bytes}
use Rattle.fields.specs.LittleEndian.{le_value, le_at}

-- k bytes take 8 * k bits
pub bits_suc : (k : ℕ) → 2 ^ (8 * suc k) ≡ 256 * 2 ^ (8 * k)
bits_suc k = rw (mul-suc, pow-add 2 (8 * k) 8) (omega arith)

-- one byte more in front
le_cons : (s : List ℕ) (pos w : ℕ) → pos < length s → le_at s pos (suc w) ≡ get_or s pos 0 + 256 * le_at s (suc pos) w
unfolding le_value le_at
le_cons s pos w h = rw (drop-cons s pos 0)

-- v bytes, and w bytes above them
pub le_add : (v w : ℕ) (s : List ℕ) (pos : ℕ) → pos + v ≤ length s → le_at s pos (v + w) ≡ le_at s pos v + 2 ^ (8 * v) * le_at s (pos + v) w
unfolding le_value le_at
le_add zero w s pos h = rw (zero-add w, add-zero) (omega arith)
le_add (suc v) w s pos h =
    let inside : pos < length s = omega arith in
    let e : pos + suc v ≡ suc pos + v = omega arith in
    let f : suc v + w ≡ suc (v + w) = omega arith in
    rw (f, e, bits_suc v) (omega (arith, le_cons s pos (v + w) inside, le_cons s pos v inside, le_add v w s (suc pos) (omega arith)))

-- one byte
pub le_one : (s : List ℕ) (pos : ℕ) → pos < length s → le_at s pos 1 ≡ get_or s pos 0
unfolding le_value le_at
le_one s pos h = rw (drop-cons s pos 0) (omega arith)

-- the next byte down
pub grown : (s : List ℕ) (at w k v : ℕ) → at + w ≤ length s → k + 1 ≤ w → v ≡ le_at s (at + (k + 1)) (w - (k + 1)) → v < 2 ^ (8 * (w - (k + 1))) → get_or s (at + k) 0 < 256
    → (v * 256 + get_or s (at + k) 0 ≡ le_at s (at + k) (w - k)) × (v * 256 + get_or s (at + k) 0 < 2 ^ (8 * (w - k)))
grown s at w k v room le e lt b =
    let next : at + (k + 1) ≡ at + k + 1 = omega arith in
    let wider : w - k ≡ 1 + (w - (k + 1)) = omega arith in
    let wider' : w - k ≡ suc (w - (k + 1)) = omega arith in
    let e' = rw next at e in
    (rw wider (omega (arith, le_add 1 (w - (k + 1)) s (at + k) (omega arith), le_one s (at + k) (omega arith))), rw wider' (omega (arith, bits_suc (w - (k + 1)))))

-- the bytes from `at` on that are left, before the first is read
pub whole_left : (s r : List ℕ) (at w : ℕ) → at + w ≤ length s → r ≡ take (at + w - at) (drop at s)
    → (length r ≤ w) × (r ≡ take (length r) (drop at s)) × (0 ≡ le_at s (at + length r) (w - length r)) × (0 < 2 ^ (8 * (w - length r)))
unfolding le_value le_at
whole_left s r at w room e =
    let same : at + w - at ≡ w = omega arith in
    let all : length r ≡ w = rw (e, same) (length-take-le w (drop at s) (rw length-drop (omega arith))) in
    (omega arith, rw all (rw same at e), rw (all, sub_self), rw (all, sub_self) (omega arith))

-- the last of them
pub last_left : (s r q : List ℕ) (at b : ℕ) → r ≡ take (length r) (drop at s) → r ≡ q ++ b ∷ []
    → (length r ≡ length q + 1) × (q ≡ take (length q) (drop at s)) × (b ≡ get_or s (at + length q) 0)
last_left s r q at b is e =
    let n : length r ≡ length q + 1 = ap length e ∙ length-append q (b ∷ []) in
    let t : take (length q) r ≡ take (length q) (drop at s) = ap (take (length q)) is ∙ take-take (length q) (length r) (drop at s) (omega arith) in
    let g : get_or r (length q) 0 ≡ get_or s (at + length q) 0 =
    ap (λ (l : List ℕ). get_or l (length q) 0) is ∙ get_or-take (length r) (drop at s) (length q) 0 (omega arith) ∙ get_or-drop at s (length q) 0 in
    (n, sym (rw e (take_at q (b ∷ []) (length q) refl)) ∙ t, sym (rw e (get_or-append_seam q b [] 0)) ∙ g)

-- while a byte is left, the number so far leaves room for it in 64 bits
pub byte_room : (w i v : ℕ) → w ≤ 8 → 0 < i → v < 2 ^ (8 * (w - i)) → v < 2 ^ 56
byte_room w i v hw hi hv = omega (arith, pow_mono {i = 8 * (w - i)} {j = 56} (omega arith))

-- no byte left
pub all_read : (s : List ℕ) (at w i v : ℕ) → i ≤ 0 → v ≡ le_at s (at + i) (w - i) → v < 2 ^ (8 * (w - i)) → (v ≡ le_at s at w) × (v < 2 ^ (8 * w))
all_read s at w i v h e lt =
    let z : i ≡ 0 = omega arith in
    (rw (z, add-zero, sub-zero) at e, rw (z, sub-zero) at lt)

-- past the end there is nothing but 0
pub le_past : (s : List ℕ) (j k : ℕ) → length s ≤ j → 0 ≡ le_at s j k
unfolding le_value le_at
le_past s j k h = rw (drop_of_length-le s h, take-nil)

-- bytes past the end count as 0
pub le_short : (s : List ℕ) (j k m : ℕ) → length s ≤ j + k → k ≤ m → le_at s j k ≡ le_at s j m
unfolding le_at
le_short s j k m h le = rw (take_all k (drop j s) (rw length-drop (omega arith)), take_all m (drop j s) (rw length-drop (omega arith)))

-- w bytes hold no more than 8 * w bits
pub le_small : (s : List ℕ) → ((i : ℕ) → get_or s i 0 < 256) → (w pos : ℕ) → le_at s pos w < 2 ^ (8 * w)
unfolding le_value le_at
le_small s b zero pos = omega arith
le_small s b (suc w) pos =
    ⊎_elim (λ (h : pos < length s). rw (bits_suc w) (omega (arith, le_cons s pos w h, b pos, le_small s b w (suc pos))))
    (λ (h : length s ≤ pos). rw (drop_of_length-le s {i = pos} h) (pow_pos (8 * suc w))) (lt_or_ge pos (length s))

-- ---- bytes that are listed

-- one more of them
take_next : (s : List ℕ) (i j w : ℕ) → j ≡ i + 1 → i < length s → take (suc w) (drop i s) ≡ get_or s i 0 ∷ take w (drop j s)
take_next s i j w e h = rw (drop-cons s i 0 h, e, add-one)

module _ (s : List ℕ) (i : ℕ) where
  abbrev at : ℕ → ℕ
  at k = get_or s (i + k) 0

  pub two : i + 2 ≤ length s → from_le_bytes w16 (get_or s i 0 ∷ at 1 ∷ []) ≡ le_at s i 2
  unfolding le_at le_value
  two h = rw (take_next s i (i + 1) 1 (omega arith) (omega arith), take_next s (i + 1) (i + 2) 0 (omega arith) (omega arith)) (omega arith)

  pub four : i + 4 ≤ length s → from_le_bytes w32 (get_or s i 0 ∷ at 1 ∷ at 2 ∷ at 3 ∷ []) ≡ le_at s i 4
  unfolding le_at le_value
  four h =
      rw (
        take_next s i (i + 1) 3 (omega arith) (omega arith),
        take_next s (i + 1) (i + 2) 2 (omega arith) (omega arith),
        take_next s (i + 2) (i + 3) 1 (omega arith) (omega arith),
        take_next s (i + 3) (i + 4) 0 (omega arith) (omega arith),
      ) (omega arith)

  pub eight : i + 8 ≤ length s → from_le_bytes w64 (get_or s i 0 ∷ at 1 ∷ at 2 ∷ at 3 ∷ at 4 ∷ at 5 ∷ at 6 ∷ at 7 ∷ []) ≡ le_at s i 8
  unfolding le_at le_value
  eight h =
      rw (
        take_next s i (i + 1) 7 (omega arith) (omega arith),
        take_next s (i + 1) (i + 2) 6 (omega arith) (omega arith),
        take_next s (i + 2) (i + 3) 5 (omega arith) (omega arith),
        take_next s (i + 3) (i + 4) 4 (omega arith) (omega arith),
        take_next s (i + 4) (i + 5) 3 (omega arith) (omega arith),
        take_next s (i + 5) (i + 6) 2 (omega arith) (omega arith),
        take_next s (i + 6) (i + 7) 1 (omega arith) (omega arith),
        take_next s (i + 7) (i + 8) 0 (omega arith) (omega arith),
      ) (omega arith)
