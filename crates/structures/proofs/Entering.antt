-- Laws of stepping into a structure. Assumes nothing.
use Prim.Native.Nat.{ℕ}
use mathlib.Core.Path.{◌≡◌, refl, sym, subst}
use mathlib.Core.Bool.{Bool, true, false, cond}
use native.Mathlib.Omega.{arith}
use Rattle.std.specs.Prelude.{Err, None, Ok, Option, Some}
use Rattle.refusal.specs.declared.Refusal.{Refusal}
use Rattle.refusal.specs.Refusals.{Checked, Outcome}
use Rattle.structures.specs.Entered.{entered}

-- a structure that lies somewhere where b holds, and is found
pub found : (b : Bool) (n at : ℕ) → cond b (Some n) None ≡ Some at → (b ≡ true) × (at ≡ n)
found true n at e = (refl, cc)
found false n at e = let z : ◌≡◌ {A = ℕ} 0 1 = cc in absurd (omega arith)

-- what holds where it is stepped into, by what holds of each way that this can go
pub entered_where : (P : Outcome (Option ℕ) → Type 0) (b : Bool) (n : ℕ) (t : Checked) (x : Outcome (Option ℕ)) → x ≡ entered (cond b (Some n) None) t
    → (b ≡ false → P (Ok None)) → (b ≡ true → t ≡ Ok tt → P (Ok (Some n))) → ((r : Refusal) → b ≡ true → t ≡ Err r → P (Err r)) → P x
unfolding entered
entered_where P false n t x e o p q = subst P (sym e) (o refl)
entered_where P true n (Ok u) x e o p q = subst P (sym e) (p refl refl)
entered_where P true n (Err r) x e o p q = subst P (sym e) (q r refl refl)
