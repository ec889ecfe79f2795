-- Taking tests apart: a Boolean, a comparison, one refusal, two in their order. Assumes nothing.
use Prim.Native.Nat.{ℕ, ◌<◌, ◌≤◌}
use mathlib.Core.Logic.{◌⊎◌, inl, inr}
use mathlib.Core.Path.{◌≡◌, refl, sym, ap}
use mathlib.Core.Bool.{Bool, true, false, cond, ◌&&◌, ◌||◌, and-eq-true_iff}
use native.Mathlib.Omega.{arith}
use borrow.Author.Tests.{ltb-true, ltb-false}
use lib.Dec.{ltb}
use Rattle.std.specs.Prelude.{Err, Ok}
use Rattle.refusal.specs.declared.Refusal.{Refusal}
use Rattle.refusal.specs.Refusals.{refuse, ◌then◌, Checked}

-- by whether a Boolean is true
pub by_cond {ℓ κ} : {A : Type ℓ} (P : A → Type κ) (t : Bool) {x y : A} → (t ≡ true → P x) → (t ≡ false → P y) → P (cond t x y)
by_cond P true f g = f refl
by_cond P false f g = g refl

pub lt_or_ge : (a b : ℕ) → (a < b) ⊎ (b ≤ a)
lt_or_ge a b = go (ltb a b) refl
  where
    go : (t : Bool) → ltb a b ≡ t → (a < b) ⊎ (b ≤ a)
    go true e = inl (ltb-true a b e)
    go false e = inr (ltb-false a b e)

pub false_true : false ≡ true → ⊥
false_true h = let z : ◌≡◌ {A = ℕ} 0 1 = cc in omega arith

pub both : (a b : Bool) → a && b ≡ true → (a ≡ true) × (b ≡ true)
both a b h = (and-eq-true_iff a b).0 h

pub not_both : (a b : Bool) → a && b ≡ false → a ≡ true → b ≡ false
not_both a b h e = rw e at h

pub neither : (a b : Bool) → a || b ≡ false → (a ≡ false) × (b ≡ false)
neither false b h = (refl, h)
neither true b h = (cc, cc)

pub refused_passed : (r : Refusal) → ◌≡◌ {A = Checked} (Err r) (Ok tt) → ⊥
refused_passed r h = let z : ◌≡◌ {A = ℕ} 0 1 = cc in omega arith

-- one refusal, by its Boolean
module _ (r : Refusal) where
  pub refuse_false : (b : Bool) → b ≡ false → Ok tt ≡ refuse r b
  unfolding refuse
  refuse_false b e = rw e

  pub refuse_true : (b : Bool) → b ≡ true → Err r ≡ refuse r b
  unfolding refuse
  refuse_true b e = rw e

  pub refuse_inv : (b : Bool) → refuse r b ≡ Ok tt → b ≡ false
  unfolding refuse
  refuse_inv true h = absurd (refused_passed _ h)
  refuse_inv false h = refl

-- two tests: the first stops, or the second decides
module _ (a b : Checked) where
  pub then_second : Ok tt ≡ a → b ≡ a then b
  unfolding ◌then◌
  then_second e = ap (λ (t : Checked). t then b) e

  pub then_first : {r : Refusal} → Err r ≡ a → Err r ≡ a then b
  unfolding ◌then◌
  then_first e = ap (λ (t : Checked). t then b) e

-- three in a row, taken from either end
pub then_assoc : (a b c : Checked) → (a then b) then c ≡ a then (b then c)
unfolding ◌then◌
then_assoc (Ok tt) b c = refl
then_assoc (Err r) b c = refl

pub then_inv : (a b : Checked) → a then b ≡ Ok tt → (a ≡ Ok tt) × (b ≡ Ok tt)
unfolding ◌then◌
then_inv (Ok tt) b h = (refl, h)
then_inv (Err r) b h = absurd (refused_passed r h)

-- the same, said the other way round
pub then_passed : (a b : Checked) → Ok tt ≡ a then b → (Ok tt ≡ a) × (Ok tt ≡ b)
then_passed a b h = let i = then_inv a b (sym h) in (sym i.0, sym i.1)

pub refuse_passed : (r : Refusal) (b : Bool) → Ok tt ≡ refuse r b → b ≡ false
refuse_passed r b h = refuse_inv r b (sym h)
