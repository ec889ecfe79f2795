-- What fits 64 bits, and what 32. Assumes nothing.
use mathlib.Core.Path.{◌≡◌, refl}
use mathlib.Core.Bool.{Bool, true, false}
use Prim.Native.Nat.{ℕ, zero, suc, ◌+◌, ◌*◌, ◌^◌, ◌-◌, ◌<◌, ◌≤◌, min}
use mathlib.Core.Logic.{◌⊎◌, inl, inr, ⊎_elim}
use Rattle.std.specs.Prelude.{Err, None, Ok, Option, Some, SomeIff, is_some, unwrap_or}
use Rattle.refusal.specs.declared.Refusal.TheVariants.{Size}
use Rattle.refusal.proofs.Tests.{lt_or_ge}
use native.Mathlib.Omega.{arith}
use lib.Dec.{leb}
use borrow.Author.Tests.{le-leb, lt-leb, lt-ltb, le-ltb, leb-true, leb-false}
use Rattle.refusal.specs.Refusals.{refuse, figure, largest64}
use Rattle.refusal.specs.Outcome.{◌yields◌}
use Rattle.fields.specs.Values.{exact, narrowed}
use Rattle.fields.specs.Fields.{size_test}

pub fits : (n : ℕ) → n ≤ largest64 → Some n ≡ exact n
unfolding exact
fits n h = simp (le-leb n largest64 h)

pub overflows : (n : ℕ) → largest64 < n → None ≡ exact n
unfolding exact
overflows n h = simp (lt-leb n largest64 h)

pub fits_is : (n v : ℕ) → Some v ≡ exact n → (v ≡ n) × (n ≤ largest64)
unfolding exact
fits_is n v h = go (leb n largest64) refl
  where
    go : (t : Bool) → leb n largest64 ≡ t → (v ≡ n) × (n ≤ largest64)
    go true e = (cc (simp e at h), leb-true n largest64 e)
    go false e = let z : ◌≡◌ {A = ℕ} 0 1 = cc (simp e at h) in absurd (omega arith)

pub overflows_is : (n : ℕ) → None ≡ exact n → largest64 < n
unfolding exact
overflows_is n h = go (leb n largest64) refl
  where
    go : (t : Bool) → leb n largest64 ≡ t → largest64 < n
    go true e = let z : ◌≡◌ {A = ℕ} 0 1 = cc (simp e at h) in absurd (omega arith)
    go false e = leb-false n largest64 e

-- what std's checked sums and products answer
pub checked_exact : (r : Option ℕ) (n : ℕ) → SomeIff r (n < 2 ^ 64) n → r ≡ exact n
checked_exact None n past = overflows n (⊎_elim (λ (lt : largest64 < n). lt) (λ (le : n ≤ largest64). absurd (past (omega arith))) (lt_or_ge largest64 n))
checked_exact (Some v) n s = rw s.1 (fits n (omega (arith, s.0)))

-- what is more than a number past 2^64 − 1 is past it too
pub overflows_more : (n m : ℕ) → n ≤ m → None ≡ exact n → None ≡ exact m
overflows_more n m le h = overflows m (omega (arith, overflows_is n h))

-- the figure of a number that 64 bits hold, or not
pub figure-fits : (n v : ℕ) → Some v ≡ exact n → v ≡ figure n
unfolding figure
figure-fits n v h = omega (arith, fits_is n v h)

pub figure-overflows : (n : ℕ) → None ≡ exact n → largest64 ≡ figure n
unfolding figure
figure-overflows n h = omega (arith, overflows_is n h)

-- .. as std answers it, and what stands in its place where they don't
pub figure_of : (r : Option ℕ) (n : ℕ) → r ≡ exact n → unwrap_or r largest64 ≡ figure n
figure_of None n e = figure-overflows n e
figure_of (Some v) n e = figure-fits n v e

-- whether 64 bits hold a number
pub none_past : (r : Option ℕ) (n : ℕ) → r ≡ exact n → is_some r ≡ false → largest64 < n
none_past None n e t = overflows_is n e
none_past (Some v) n e t = let z : ◌≡◌ {A = ℕ} 0 1 = cc in absurd (omega arith)

pub some_fits : (r : Option ℕ) (n : ℕ) → r ≡ exact n → is_some r ≡ true → n ≤ largest64
some_fits None n e t = let z : ◌≡◌ {A = ℕ} 0 1 = cc in absurd (omega arith)
some_fits (Some v) n e t = (fits_is n v e).1

-- a number in 32 bits
pub narrow : (n : ℕ) → n ≤ 2 ^ 32 - 1 → Ok n ≡ narrowed n
unfolding narrowed size_test refuse ◌yields◌
narrow n h = simp (le-ltb (2 ^ 32 - 1) n h)

pub too_wide : (n : ℕ) → 2 ^ 32 - 1 < n → n ≤ largest64 → Err (Size n) ≡ narrowed n
unfolding narrowed size_test refuse ◌yields◌ figure
too_wide n h fit = let e : figure n ≡ n = omega arith in simp (lt-ltb (2 ^ 32 - 1) n h, e)

-- a summand past 2^64 − 1 may be given as 2^64 − 1
pub figure_add : (a b : ℕ) → figure (figure a + b) ≡ figure (a + b)
unfolding figure
figure_add a b = omega arith

-- sums of figures are the figure of the sum
pub figure_sum : (a b d : ℕ) → figure (figure (a + figure b) + figure d) ≡ figure (a + b + d)
unfolding figure
figure_sum a b d = omega arith

-- a factor past 2^64 − 1 may be given as 2^64 − 1
pub figure_mul : (a b : ℕ) → figure (a * figure b) ≡ figure (a * b)
unfolding figure
figure_mul a b = ⊎_elim (λ (le : b ≤ largest64). let e : min b largest64 ≡ b = omega arith in rw e refl) (λ (lt : largest64 < b). over a lt) (le_or_lt b)
  where
    le_or_lt : (n : ℕ) → (n ≤ largest64) ⊎ (largest64 < n)
    le_or_lt n = ⊎_elim (λ (h : n < largest64 + 1). inl (omega arith)) (λ (h : largest64 + 1 ≤ n). inr (omega arith)) (lt_or_ge n (largest64 + 1))

    over : (a : ℕ) → largest64 < b → min (a * min b largest64) largest64 ≡ min (a * b) largest64
    over zero lt = let x : 0 * min b largest64 ≡ 0 = omega arith in let y : 0 * b ≡ 0 = omega arith in rw (x, y) refl
    over (suc a) lt =
        let e : min b largest64 ≡ largest64 = omega arith in
        let x : largest64 ≤ suc a * largest64 = omega arith in
        let y : largest64 ≤ suc a * b = (let z : suc a * b ≡ b + a * b = omega arith in omega arith) in
        rw e (omega arith)

pub figure_le : (n : ℕ) → figure n ≤ largest64
unfolding figure
figure_le n = omega arith
