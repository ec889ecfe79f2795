-- The records of the slots below the count are an exact list of the index, where its grid was accepted, of rank 1 at
-- least. Assumes nothing.
use Prim.Native.Nat.{ℕ, zero, suc, ◌+◌, ◌<◌, ◌≤◌}
use mathlib.Core.Path.{◌≡◌, refl, sym, ◌∙◌}
use mathlib.Core.List.{List}
use native.Mathlib.Omega.{arith}
use lib.ListN.{length}
use Rattle.std.specs.Prelude.{None, Option, Some}
use Rattle.refusal.specs.Refusals.{largest64}
use Rattle.chunk_grid.specs.Grid.{slot_of}
use Rattle.chunk_grid.proofs.Grids.{Accepted}
use Rattle.chunk_grid.proofs.Chunks.{chunk_at_slot, slot_chunk_at}
use Rattle.index.specs.declared.Entry.{Entry}
use Rattle.index.specs.Index.{Index, Rec}
use Rattle.index.specs.SlotRecords.{record_of, record_at, with, records}
use Rattle.index.specs.ExactList.{Stored, Used, Tally, hit, miss, end, Rising, ExactList}
use Rattle.index.proofs.Records.{none_some, record_at_lem, listed, whole}

at_is : (s t : ℕ) → Some s ≡ Some t → s ≡ t
at_is s t h = cc

-- a stored chunk's slot has its record
pub stored_record : (i : Index) → Accepted i.grid → (corner : List ℕ) (s : ℕ) (e : Entry) → Stored i corner s e
    → record_at i s ≡ Some (record { entry = e; corner = corner })
unfolding record_at record_of
stored_record i b corner s e h = rw (h.holds, slot_chunk_at i.grid b corner s h.chunk h.slot) refl

-- a count that 64 bits hold
module _ (i : Index) (b : Accepted i.grid) (ranked : 0 < i.grid.rank) (fits : i.count ≤ largest64) where
  stored : (t : ℕ) (r : Rec) → t < i.count → record_at i t ≡ Some r → Stored i r.corner t r.entry
  stored t r lt h =
      let p = record_at_lem i t r h in
      let k = chunk_at_slot i.grid b t r.corner ranked (omega arith) p.1 in
      record { chunk = k.0; slot = k.1; published = lt; holds = p.0 }

  slot_is : (t s : ℕ) (r : Rec) → t < i.count → record_at i t ≡ Some r → slot_of i.grid r.corner ≡ Some s → s ≡ t
  slot_is t s r lt h e = at_is s t (sym e ∙ (stored t r lt h).slot)

  rising_with : (s m : ℕ) (x : Option Rec) → s + suc m ≤ i.count → record_at i s ≡ x → Rising i (records i (s + 1) m)
      → Rising i (with x (records i (s + 1) m))
  unfolding with
  rising_with s m None lt e h = h
  rising_with s m (Some r) lt e h = (
    (λ q k a b' p p'.
        let f = listed i m (s + 1) q k in
        let y = slot_is s a r (omega arith) e p in
        let y' = slot_is f.0 b' q (omega arith) f.3 p' in
        omega arith),
    h,
  )

  rises : (m s : ℕ) → s + m ≤ i.count → Rising i (records i s m)
  unfolding records
  rises zero s h = tt
  rises (suc m) s h = rising_with s m (record_at i s) (omega arith) refl (rises m (s + 1) (omega arith))

  -- the slots of stored chunks are those with a record
  unused : (s : ℕ) → record_at i s ≡ None → Used i s → ⊥
  unused s h u = none_some _ (sym h ∙ stored_record i b u.0 s u.1 u.2)

  tally_with : (s m : ℕ) (x : Option Rec) (l : List Rec) → s < i.count → record_at i s ≡ x → Tally (Used i) (s + 1) m (length l)
      → Tally (Used i) s (suc m) (length (with x l))
  unfolding with
  tally_with s m None l lt e t = miss s m (length l) (unused s e) t
  tally_with s m (Some r) l lt e t = hit s m (length l) (r.corner, r.entry, stored s r lt e) t

  tally : (m s : ℕ) → s + m ≤ i.count → Tally (Used i) s m (length (records i s m))
  unfolding records
  tally zero s h = end s
  tally (suc m) s h = tally_with s m (record_at i s) (records i (s + 1) m) (omega arith) refl (tally m (s + 1) (omega arith))

  pub records-exact : ExactList i (records i 0 i.count) (length (records i 0 i.count))
  records-exact = record {
    listed = λ r k. let f = listed i i.count 0 r k in (f.0, stored f.0 r (omega arith) f.3);
    whole = λ corner s q k. let p = k.published in whole i i.count 0 s _ (omega arith) (omega arith) (stored_record i b corner s q k);
    rising = rises i.count 0 (omega arith);
    counted = refl;
    tallied = tally i.count 0 (omega arith);
  }
