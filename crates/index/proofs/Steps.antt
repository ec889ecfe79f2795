-- What holds of slots from some slot on, and of positions a stride apart: it holds of the first, and of the others.
-- Assumes nothing.
use Prim.Native.Nat.{ℕ, suc, ◌+◌, ◌*◌, ◌<◌}
use mathlib.Core.Path.{◌≡◌, subst}
use native.Mathlib.Omega.{arith}

module _ (P : ℕ → ℕ → Type 0) (s pos stride j : ℕ) (h : (i : ℕ) → i < suc j → P (s + i) (pos + i * stride)) where
  pub first : P s pos
  first =
      let a : s + 0 ≡ s = omega arith in
      let b : pos + 0 * stride ≡ pos = omega arith in
      subst (λ (t : ℕ). P t pos) a (subst (P (s + 0)) b (h 0 (omega arith)))

  pub others : (i : ℕ) → i < j → P (s + 1 + i) (pos + stride + i * stride)
  others i lt =
      let a : s + suc i ≡ s + 1 + i = omega arith in
      let b : pos + suc i * stride ≡ pos + stride + i * stride = omega arith in
      subst (λ (t : ℕ). P t (pos + stride + i * stride)) a (subst (P (s + suc i)) b (h (suc i) (omega arith)))

-- the same of slots alone
module _ (P : ℕ → Type 0) (s j : ℕ) (h : (i : ℕ) → i < suc j → P (s + i)) where
  pub first_slot_lem : P s
  first_slot_lem = first (λ t p. P t) s 0 0 j h

  pub other_slots : (i : ℕ) → i < j → P (s + 1 + i)
  other_slots = others (λ t p. P t) s 0 0 j h
