-- What is answered for a listing, and what the lent list is then. Assumes nothing.
use Prim.Native.Nat.{ℕ}
use mathlib.Core.Path.{◌≡◌, refl}
use mathlib.Core.List.{List}
use lib.ListN.{length}
use lib.Seq.{sets}
use Rattle.std.specs.Prelude.{Err, Ok}
use Rattle.refusal.specs.declared.Refusal.{Refusal}
use Rattle.refusal.specs.Values.{counted_of}
use Rattle.index.specs.Index.{Rec, Listing}
use Rattle.records.specs.Records.{list_bytes, list_content}

module _ (a : Listing) (out : List ℕ) where
  pub answer_refused : (r : Refusal) → a ≡ Err r → (Err r ≡ counted_of a) × (out ≡ list_content a out)
  unfolding counted_of list_content
  answer_refused r e = rw e (refl, refl)

  pub answer_accepted : (l : List Rec) → a ≡ Ok l → (n : ℕ) → n ≡ length l → (out' : List ℕ) → out' ≡ sets out 0 (list_bytes l)
      → (Ok n ≡ counted_of a) × (out' ≡ list_content a out)
  unfolding counted_of list_content
  answer_accepted l e n k out' w = rw (e, k, w) (refl, refl)
