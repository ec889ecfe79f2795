-- The three widths of offsets and lengths. Assumes nothing.
use mathlib.Core.Path.{◌≡◌, refl}
use mathlib.Core.Bool.{Bool, true, false}
use mathlib.Core.Logic.{◌⊎◌, inl, inr, ⊎_elim}
use Prim.Native.Nat.{ℕ, ◌≤◌}
use native.Mathlib.Omega.{arith}
use lib.Dec.{eqb}
use borrow.Author.Tests.{eqb-true, ne_eqb}
use Rattle.fields.specs.Fields.{is_width}

abbrev pub OneOf : ℕ → Type 0
OneOf w = (w ≡ 2) ⊎ ((w ≡ 4) ⊎ (w ≡ 8))

pub is_width_lem : (w : ℕ) → OneOf w → is_width w ≡ true
unfolding is_width
is_width_lem w o = ⊎_elim (λ e. rw e) (λ p. ⊎_elim (λ e. rw e) (λ e. rw e) p) o

pub no_width : (w : ℕ) → (OneOf w → ⊥) → is_width w ≡ false
unfolding is_width
no_width w n = simp (ne_eqb w 2 (λ e. n (inl e)), ne_eqb w 4 (λ e. n (inr (inl e))), ne_eqb w 8 (λ e. n (inr (inr e))))

pub one_of : (w : ℕ) → is_width w ≡ true → OneOf w
unfolding is_width
one_of w h = go (eqb w 2) refl (eqb w 4) refl
  where
    go : (a : Bool) → eqb w 2 ≡ a → (b : Bool) → eqb w 4 ≡ b → OneOf w
    go true e b f = inl (eqb-true w 2 e)
    go false e true f = inr (inl (eqb-true w 4 f))
    go false e false f = inr (inr (eqb-true w 8 (simp (e, f) at h)))

pub width_le : (w : ℕ) → is_width w ≡ true → w ≤ 8
width_le w h = ⊎_elim (λ e. omega arith) (λ p. ⊎_elim (λ e. omega arith) (λ e. omega arith) p) (one_of w h)
