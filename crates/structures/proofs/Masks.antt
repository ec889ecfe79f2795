-- A page bit, tested by a mask, is a digit of its byte. Assumes nothing.
use mathlib.Core.Path.{◌≡◌, ap, sym, ◌∙◌}
use mathlib.Core.Bool.{not}
use Prim.Native.Nat.{ℕ, zero, suc, ◌+◌, ◌-◌, ◌*◌, ◌/◌, ◌%◌, ◌^◌, ◌<◌}
use native.Mathlib.Nat.{zero-mul, one-mul}
use native.Mathlib.Omega.{arith}
use lib.Dec.{eqb}
use lib.Pow.{pow_pos, pow-add, shl-shr}
use lib.Bits.{bit_and, and_high}
use borrow.Author.Tests.{ne_eqb}

-- the highest bit of a byte, shifted right
shifted_top : (j : ℕ) → j < 8 → 128 / 2 ^ j ≡ 2 ^ (7 - j)
shifted_top j h =
    let e : 7 - j + j ≡ 7 = omega arith in
    ap (λ (n : ℕ). n / 2 ^ j) (ap (λ (n : ℕ). 2 ^ n) (sym e) ∙ pow-add 2 (7 - j) j) ∙ shl-shr (2 ^ (7 - j)) j

-- a mask of the bit k
one_bit : (n k : ℕ) → bit_and n (2 ^ k) ≡ n / 2 ^ k % 2 * 2 ^ k
one_bit n k =
    let e : 2 ^ (1 + k) - 2 ^ k ≡ 2 ^ k = omega (arith, pow-add 2 1 k) in
    ap (λ (m : ℕ). bit_and n m) (sym e) ∙ and_high n 1 k

digit_test : (d p : ℕ) → 0 < p → d < 2 → not (eqb (d * p) 0) ≡ eqb d 1
digit_test zero p pos h = simp zero-mul
digit_test (suc zero) p pos h = simp (one-mul, ne_eqb p 0 (λ e. omega arith))
digit_test (suc (suc d)) p pos h = absurd (omega arith)

-- the test of the mask 0x80, shifted right by j, is a test of that digit
pub mask_test : (n j : ℕ) → j < 8 → not (eqb (bit_and n (128 / 2 ^ j)) 0) ≡ eqb (n / (128 / 2 ^ j) % 2) 1
mask_test n j h =
    rw (shifted_top j h) (
    let k = 7 - j in
    ap (λ (m : ℕ). not (eqb m 0)) (one_bit n k) ∙ digit_test (n / 2 ^ k % 2) (2 ^ k) (pow_pos k) (omega arith)
    )
