-- What holds of every record of a list, and of the records of slots. Assumes nothing.
use Prim.Native.Nat.{ℕ, ◌+◌, ◌<◌, ◌≤◌}
use mathlib.Core.Path.{◌≡◌, refl}
use mathlib.Core.List.{List, [], ◌∷◌, Memᴰ}
use Rattle.std.specs.Prelude.{Some}
use Rattle.index.specs.Index.{Index, Rec}
use Rattle.index.specs.SlotRecords.{record_at, records}
use Rattle.index.proofs.Records.{listed}

unfoldable pub All : (Rec → Type 0) → List Rec → Type 0
All P [] = Unit {0}
All P (r ∷ l) = P r × All P l

module _ (P : Rec → Type 0) where
  all_members : (l : List Rec) → ((r : Rec) → Memᴰ r l → P r) → All P l
  unfolding All
  all_members [] h = tt
  all_members (r ∷ l) h = (h r (Memᴰ.head refl), all_members l (λ q k. h q (Memᴰ.tail k)))

  -- the records of slots, where it holds of each slot's
  pub records_all : (i : Index) (m s : ℕ) → ((t : ℕ) (r : Rec) → s ≤ t → t < s + m → record_at i t ≡ Some r → P r) → All P (records i s m)
  records_all i m s h = all_members (records i s m) (λ r k. let f = listed i m s r k in h f.0 r f.1 f.2 f.3)
