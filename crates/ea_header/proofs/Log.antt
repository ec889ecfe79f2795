-- floor(log2 n): what it is, and what the counts of leading and trailing zeros say of it. Assumes nothing.
use mathlib.Core.Path.{◌≡◌, refl, ap, sym, ◌∙◌}
use mathlib.Core.Bool.{Bool, true, false}
use mathlib.Core.Logic.{⊎_elim}
use Prim.Native.Nat.{ℕ, zero, suc, ◌+◌, ◌-◌, ◌*◌, ◌/◌, ◌%◌, ◌^◌, ◌<◌, ◌≤◌}
use native.Mathlib.Nat.{not-suc-le-zero, lt_of_not-le, one-mul}
use native.Mathlib.Omega.{arith}
use lib.Dec.{lit<, eqb}
use lib.Pow.{pow_pos, pow_mono, shl_exact}
use lib.Count.{ones, ones_in, ones_step, ones_cat, count_leading_zeros, leading_top, count_trailing_zeros}
use borrow.Author.Tests.{lt-ltb, le-ltb, eqb-true, eqb-false, eq-eqb, ne_eqb}
use Rattle.std.proofs.lemmas.Nat.{zero_from_ones, ones_le_self}
use Rattle.refusal.proofs.Tests.{lt_or_ge}
use Rattle.ea_header.specs.Log.{log2_in, log2}

-- log2_in f n is the k with 2 ^ k ≤ n < 2 ^ (k + 1)
pub log2_is : (f k n : ℕ) → k < f → 2 ^ k ≤ n → n < 2 ^ suc k → log2_in f n ≡ k
unfolding log2_in
log2_is zero k n h lo hi = absurd (not-suc-le-zero h)
log2_is (suc f) zero n h lo hi = simp (lt-ltb n 2 hi)
log2_is (suc f) (suc k) n h lo hi =
    let two : 2 ≤ n = omega (arith, pow_pos k, lo) in
    simp (le-ltb n 2 two) (ap suc (log2_is f k (n / 2) (omega arith) (omega (arith, lo)) (omega (arith, hi))))

-- the place of the highest set bit
pub top_place : (a : ℕ) → 0 < a → a < 2 ^ 64 → (count_leading_zeros 64 a ≤ 63) × (63 - count_leading_zeros 64 a ≡ log2 a)
top_place a pos lt =
    let t = leading_top 64 a pos lt in
    let e : 63 - count_leading_zeros 64 a ≡ t.0 = omega (arith, t.1) in
    (omega (arith, t.1), e ∙ sym (log2_is 64 t.0 a (omega (arith, t.1)) t.2 t.3))

-- and at least k where 2 ^ k ≤ n
pub log2_ge : (f k n : ℕ) → k ≤ f → 2 ^ k ≤ n → k ≤ log2_in f n
unfolding log2_in
log2_ge f zero n h lo = omega arith
log2_ge zero (suc k) n h lo = absurd (omega arith)
log2_ge (suc f) (suc k) n h lo =
    let two : 2 ≤ n = omega (arith, pow_pos k, lo) in
    let rest = log2_ge f k (n / 2) (omega arith) (omega (arith, lo)) in
    simp (le-ltb n 2 two) (omega arith)

-- and never more than that
pub log2_lo : (f n : ℕ) → 0 < n → 2 ^ log2_in f n ≤ n
unfolding log2_in
log2_lo zero n h = omega arith
log2_lo (suc f) n h =
    ⊎_elim (λ (lt : n < 2). rw (lt-ltb n 2 lt) (omega arith))
    (λ (ge : 2 ≤ n). let half = log2_lo f (n / 2) (omega arith) in let z : 2 ^ suc (log2_in f (n / 2)) ≤ n = omega arith in rw (le-ltb n 2 ge) z) (lt_or_ge n 2)

-- an exponent is small where its power is
pub exponent_lt : (k j : ℕ) → 2 ^ k < 2 ^ j → k < j
exponent_lt k j h = lt_of_not-le (λ g. omega (arith, pow_mono {i = j} {j = k} g))

-- a power of two has as many trailing zeros as its exponent says
pub trailing_pow : (w k : ℕ) → k < w → count_trailing_zeros w (2 ^ k) ≡ k
unfolding count_trailing_zeros
trailing_pow zero k h = absurd (not-suc-le-zero h)
trailing_pow (suc w) zero h = refl
trailing_pow (suc w) (suc k) h =
    let even : 2 ^ suc k % 2 ≡ 0 = omega arith in
    let half : 2 ^ suc k / 2 ≡ 2 ^ k = omega arith in
    rw (even, half) (ap suc (trailing_pow w k (omega arith)))

pub trailing_log2 : (n : ℕ) → n ≡ 2 ^ log2 n → n ≤ 128 → count_trailing_zeros 64 n ≡ log2 n
trailing_log2 n p le = ap (λ (x : ℕ). count_trailing_zeros 64 x) p ∙ trailing_pow 64 (log2 n) (omega (arith, exponent_lt (log2 n) 8 (omega (arith, p))))

-- 1 shifted left
pub one_shl : (k : ℕ) → k < 64 → 1 * 2 ^ k % 2 ^ 64 ≡ 2 ^ k
one_shl k h = shl_exact 1 k 64 (lit< tt) (omega arith) ∙ one-mul _

-- and less than twice as much, where the halvings were enough
pub log2_hi : (f n : ℕ) → log2_in f n < f → n < 2 ^ suc (log2_in f n)
unfolding log2_in
log2_hi zero n h = absurd (not-suc-le-zero h)
log2_hi (suc f) n h =
    ⊎_elim (λ (lt : n < 2). rw (lt-ltb n 2 lt) (omega arith))
    (λ (ge : 2 ≤ n).
    let fewer : suc (log2_in f (n / 2)) < suc f = rw (le-ltb n 2 ge) at h in
    let half = log2_hi f (n / 2) (omega arith) in
    let z : n < 2 ^ suc (suc (log2_in f (n / 2))) = omega arith in
    rw (le-ltb n 2 ge) z) (lt_or_ge n 2)

-- a power of two is a number with one digit set
ones_power : (k : ℕ) → ones (2 ^ k) ≡ 1
unfolding ones ones_in
ones_power k = let e : 2 ^ k ≡ 1 * 2 ^ k + 0 = omega arith in ap ones e ∙ ones_cat k 1 0 (pow_pos k)

power_of_ones : (f n : ℕ) → n < 2 ^ f → ones n ≡ 1 → n ≡ 2 ^ log2_in f n
unfolding log2_in
power_of_ones zero n h e = omega (arith, ones_le_self n)
power_of_ones (suc f) n h e =
    let s = ones_step n in
    let none = zero_from_ones (n / 2) in
    ⊎_elim (λ (lt : n < 2). rw (lt-ltb n 2 lt) (omega (arith, ones_le_self n)))
    (λ (ge : 2 ≤ n).
    let one : ones (n / 2) ≡ 1 = grind (arith, s, none) in
    let half = power_of_ones f (n / 2) (omega arith) one in
    let z : n ≡ 2 ^ suc (log2_in f (n / 2)) = omega arith in
    rw (le-ltb n 2 ge) z) (lt_or_ge n 2)

-- so a test that one digit is set says the same as the definition
pub power_test : (n : ℕ) → n < 2 ^ 64 → eqb (ones n) 1 ≡ eqb n (2 ^ log2 n)
power_test n h = go (eqb (ones n) 1) refl
  where
    go : (t : Bool) → eqb (ones n) 1 ≡ t → eqb (ones n) 1 ≡ eqb n (2 ^ log2 n)
    go true e = e ∙ sym (eq-eqb n (2 ^ log2 n) (power_of_ones 64 n h (eqb-true (ones n) 1 e)))
    go false e =
        e ∙ sym (ne_eqb n (2 ^ log2 n) (λ p. eqb-false (ones n) 1 e (ap ones p ∙ ones_power (log2 n))))
