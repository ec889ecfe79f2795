-- What the pointers to a super block and to its data blocks say. Assumes nothing.
use Prim.Native.Nat.{ℕ}
use mathlib.Core.Path.{◌≡◌, refl}
use mathlib.Core.Bool.{Bool, true, false, not}
use Rattle.std.specs.Prelude.{Ok, Option, Some, is_some}
use Rattle.refusal.proofs.Tests.{then_inv}
use Rattle.ea_blocks.specs.Array.{Array}
use Rattle.ea_blocks.specs.Structures.{super_block, is_direct, super_block_at, super_undefined}
use Rattle.ea_blocks.specs.Values.{pointer_of}
use Rattle.ea_blocks.specs.Entered.{EnteredSuper}
use Rattle.span_walk.specs.Spans.{spanned_test}

-- whether a pointer is defined
pub is_pointed : (t : Bool) (a : ℕ) (o : Option ℕ) → o ≡ pointer_of t a → is_some o ≡ not t
unfolding pointer_of
is_pointed true a o e = rw e refl
is_pointed false a o e = rw e refl

-- a super block that has passed its tests
pub entered_tested : (a : Array) (u at : ℕ) → is_direct a u ≡ false → super_undefined a u ≡ false → at ≡ super_block_at a u
    → spanned_test a (super_block u) ≡ Ok tt → EnteredSuper a u (Ok (Some (Some at)))
unfolding spanned_test
entered_tested a u at d w e t = (d, w, (then_inv _ _ t).1, e)
