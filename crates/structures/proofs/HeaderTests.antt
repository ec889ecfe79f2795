-- The test of a header, taken apart. Assumes nothing.
use Prim.Native.Nat.{ℕ, ◌+◌, ◌≤◌}
use mathlib.Core.Path.{◌≡◌, sym}
use mathlib.Core.Bool.{true}
use mathlib.Core.List.{List}
use lib.ListN.{length}
use Rattle.std.specs.Prelude.{Ok}
use Rattle.refusal.specs.declared.Refusal.{Refusal}
use Rattle.refusal.specs.declared.Refusal.TheVariants.{LengthSize, OffsetSize}
use Rattle.refusal.proofs.Tests.{then_inv}
use Rattle.fields.specs.Fields.{is_width}
use Rattle.fields.proofs.Fields.{inside, width_is}
use Rattle.structures.specs.Header.{sizes_test, signed_header_test}

-- a header that passes lies in the file, and its sizes are right
pub passed_is : (wrong : Refusal) (signature : ℕ) (sum : List ℕ → ℕ) (f : List ℕ) (pos len o l : ℕ) → signed_header_test wrong signature sum f pos len o l ≡ Ok tt
    → (pos + len ≤ length f) × (is_width o ≡ true) × (is_width l ≡ true)
unfolding signed_header_test sizes_test
passed_is wrong signature sum f pos len o l h =
    let a = then_inv _ _ h in
    let b = then_inv _ _ (then_inv _ _ (then_inv _ _ a.1).1).0 in
    (inside f pos len (sym a.0), width_is (OffsetSize o) o b.1, width_is (LengthSize l) l b.0)
