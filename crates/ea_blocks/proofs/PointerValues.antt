-- What a pointer's value says, and what it is to have come to a super block. Assumes nothing.
use Prim.Native.Nat.{ℕ}
use mathlib.Core.Path.{◌≡◌, refl}
use mathlib.Core.Bool.{Bool, true, false}
use native.Mathlib.Omega.{arith}
use Rattle.std.specs.Prelude.{None, Some}
use Rattle.ea_blocks.specs.Values.{pointer_of}

pub pointer_undefined : (b : Bool) (a : ℕ) → None ≡ pointer_of b a → b ≡ true
unfolding pointer_of
pointer_undefined true a h = refl
pointer_undefined false a h = let z : ◌≡◌ {A = ℕ} 0 1 = cc in absurd (omega arith)

pub pointer_at_lem : (b : Bool) (a x : ℕ) → Some x ≡ pointer_of b a → (b ≡ false) × (x ≡ a)
unfolding pointer_of
pointer_at_lem true a x h = let z : ◌≡◌ {A = ℕ} 0 1 = cc in absurd (omega arith)
pointer_at_lem false a x h = (refl, cc)
