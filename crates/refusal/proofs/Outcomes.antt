-- Taking outcomes apart. Assumes nothing.
use Prim.Native.Nat.{ℕ, ◌<◌, ◌≤◌}
use mathlib.Core.Path.{◌≡◌, refl, sym, ap, subst}
use mathlib.Core.List.{List, ◌∷◌}
use native.Mathlib.Omega.{arith}
use borrow.Author.Tests.{lt-ltb, le-ltb, ltb-false}
use lib.ListN.{length}
use lib.Dec.{ltb}
use Rattle.refusal.specs.declared.Refusal.TheVariants.{ListTooSmall}
use Rattle.std.specs.Prelude.{Err, Ok}
use Rattle.refusal.specs.declared.Refusal.TheVariants.{ListTooSmall}
use Rattle.refusal.specs.declared.Refusal.{Refusal}
use Rattle.refusal.specs.Refusals.{refuse, ◌then◌, Checked, Outcome}
use Rattle.refusal.specs.Outcome.{◌yields◌, also, in_room}
use Rattle.refusal.proofs.Tests.{refuse_inv}

pub never : {A : Type 0} (r : Refusal) (a : A) → Err r ≡ Ok a → ⊥
never r a h = let z : ◌≡◌ {A = ℕ} 0 1 = cc in omega arith

-- an accepted outcome behind a test: the test was passed, and what follows is accepted
pub yields_inv : {A : Type 0} (t : Checked) (a : Outcome A) (l : A) → t yields a ≡ Ok l → (t ≡ Ok tt) × (a ≡ Ok l)
unfolding ◌yields◌
yields_inv (Ok tt) a l h = (refl, h)
yields_inv (Err r) a l h = absurd (never r l h)

-- what stands behind a test, from the outcome
pub value_is : {A : Type 0} (t : Checked) (x v : A) → Ok v ≡ (t yields Ok x) → (Ok tt ≡ t) × (v ≡ x)
unfolding ◌yields◌
value_is (Ok tt) x v h = (refl, cc)
value_is (Err r) x v h = absurd (never r v (sym h))

pub refused_is : {A : Type 0} (t : Checked) (x : A) (r : Refusal) → Err r ≡ (t yields Ok x) → Err r ≡ t
unfolding ◌yields◌
refused_is (Ok tt) x r h = absurd (never r x h)
refused_is (Err q) x r h = let z : r ≡ q = cc in ap Err z

pub yields_passed : {A : Type 0} (t : Checked) (a : Outcome A) → t ≡ Ok tt → t yields a ≡ a
unfolding ◌yields◌
yields_passed t a h = rw h refl

pub yields_refused : {A : Type 0} (t : Checked) (a : Outcome A) (r : Refusal) → t ≡ Err r → t yields a ≡ Err r
unfolding ◌yields◌
yields_refused t a r h = rw h refl

-- the first of two tests, and an outcome that the second would refuse
pub yields_stopped : {A : Type 0} (t u : Checked) (a : Outcome A) (r : Refusal) → t then u ≡ Err r → (u ≡ Err r → a ≡ Err r)
    → t yields a ≡ Err r
unfolding ◌then◌ ◌yields◌
yields_stopped (Ok tt) u a r e f = f e
yields_stopped (Err q) u a r e f = cc

pub also_inv : {A : Type 0} (x : A) (a : Outcome (List A)) (l : List A) → also x a ≡ Ok l → (m : List A) × (a ≡ Ok m) × (l ≡ x ∷ m)
unfolding also
also_inv x (Err r) l h = absurd (never r l h)
also_inv x (Ok m) l h = (m, refl, cc)

-- 9, or room for all
pub room_refused : {A : Type 0} (a : Outcome (List A)) (room : ℕ) (r : Refusal) → a ≡ Err r → in_room a room ≡ Err r
unfolding in_room
room_refused a room r e = rw e refl

module _ {A : Type 0} (a : Outcome (List A)) (room : ℕ) (l : List A) (e : a ≡ Ok l) (n : ℕ) (k : n ≡ length l) where
  pub room_small : room < n → in_room a room ≡ Err (ListTooSmall n)
  unfolding in_room refuse ◌yields◌
  room_small lt = rw (e, k, lt-ltb room (length l) (rw k at lt)) refl

  pub room_fits : n ≤ room → in_room a room ≡ a
  unfolding in_room refuse ◌yields◌
  room_fits le = rw (e, le-ltb room (length l) (rw k at le)) refl

-- an accepted list had room
pub room_had : {A : Type 0} (a : Outcome (List A)) (room : ℕ) (l : List A) → in_room a room ≡ Ok l → length l ≤ room
unfolding in_room
room_had (Err r) room l h = absurd (never r l h)
room_had {A} (Ok m) room l h =
    let y = yields_inv (refuse (ListTooSmall (length m)) (ltb room (length m))) (Ok m) l h in
    let z : m ≡ l = cc in
    subst (λ (k : List A). length k ≤ room) z (ltb-false room (length m) (refuse_inv _ _ y.0))

pub room_inv : {A : Type 0} (a : Outcome (List A)) (room : ℕ) (l : List A) → in_room a room ≡ Ok l → a ≡ Ok l
unfolding in_room
room_inv (Err r) room l h = absurd (never r l h)
room_inv (Ok m) room l h = (yields_inv (refuse (ListTooSmall (length m)) (ltb room (length m))) (Ok m) l h).1
