-- The number of members of an outcome's list. Assumes nothing.
use Prim.Native.Nat.{ℕ, ◌+◌}
use mathlib.Core.Path.{◌≡◌, refl, sym, ap}
use mathlib.Core.List.{List, []}
use native.Mathlib.Omega.{arith}
use lib.ListN.{length}
use Rattle.std.specs.Prelude.{Err, Ok}
use Rattle.refusal.specs.Refusals.{Outcome}
use Rattle.refusal.specs.declared.Refusal.{Refusal}
use Rattle.refusal.specs.Outcome.{also}
use Rattle.refusal.specs.Values.{plus, counted_of}

-- a count, or a refusal, is that of an outcome
module _ {A : Type 0} where
  pub counted_inv : (a : Outcome (List A)) (n : ℕ) → Ok n ≡ counted_of a → (l : List A) × (a ≡ Ok l) × (n ≡ length l)
  unfolding counted_of
  counted_inv (Err r) n h = let z : ◌≡◌ {A = ℕ} 0 1 = cc in absurd (omega arith)
  counted_inv (Ok l) n h = (l, refl, cc)

  pub refused_inv : (a : Outcome (List A)) (r : Refusal) → Err r ≡ counted_of a → a ≡ Err r
  unfolding counted_of
  refused_inv (Err q) r h = let z : r ≡ q = cc in ap Err (sym z)
  refused_inv (Ok l) r h = cc

module _ {A : Type 0} where
  pub plus_zero : (a : Outcome (List A)) → plus 0 a ≡ counted_of a
  unfolding plus counted_of
  plus_zero (Err r) = refl
  plus_zero (Ok l) = ap Ok (omega arith)

  pub plus_none : (n : ℕ) (a : Outcome (List A)) → a ≡ Ok [] → plus n a ≡ Ok n
  unfolding plus
  plus_none n a e = rw e (ap Ok (omega arith))

  pub plus-also : (n : ℕ) (x : A) (a : Outcome (List A)) → plus n (also x a) ≡ plus (n + 1) a
  unfolding plus also
  plus-also n x (Err r) = refl
  plus-also n x (Ok l) = ap Ok (omega arith)
