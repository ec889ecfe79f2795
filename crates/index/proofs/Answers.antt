-- What the record of a corner's slot says of the corner, and that it agrees with an exact list. Assumes nothing.
use Prim.Native.Nat.{ℕ}
use mathlib.Core.Path.{◌≡◌, refl, sym, subst, ◌∙◌}
use mathlib.Core.Bool.{true, cond}
use mathlib.Core.List.{List, Memᴰ}
use borrow.Author.Tests.{lt-ltb, ltb-true}
use lib.Dec.{ltb}
use Rattle.std.specs.Prelude.{None, Option, Some}
use Rattle.refusal.proofs.Tests.{by_cond}
use Rattle.chunk_grid.specs.Grid.{is_chunk, slot_of}
use Rattle.chunk_grid.proofs.Grids.{Accepted}
use Rattle.chunk_grid.proofs.Chunks.{slot_chunk_at}
use Rattle.index.specs.declared.Entry.{Entry}
use Rattle.index.specs.Index.{Index, Rec}
use Rattle.index.specs.SlotRecords.{record_at}
use Rattle.index.specs.ExactList.{Stored, ExactList, Answers, Agrees}
use Rattle.index.proofs.Records.{none_some, record_at_lem, some_inv}
use Rattle.index.proofs.Exact.{stored_record}

-- the record of a slot below the count
unfoldable pub slot_record : Index → Option ℕ → Option Rec
slot_record i None = None
slot_record i (Some s) = cond (ltb s i.count) (record_at i s) None

module _ (i : Index) (corner : List ℕ) (b : Accepted i.grid) (k : is_chunk i.grid corner ≡ true) where
  -- a stored chunk's record is that of its slot
  recorded : (s : ℕ) (e : Entry) → Stored i corner s e → slot_record i (slot_of i.grid corner) ≡ Some (record { entry = e; corner = corner })
  unfolding slot_record
  recorded s e p = rw (p.slot, lt-ltb s i.count p.published) (stored_record i b corner s e p)

  present : (q : Option ℕ) → slot_of i.grid corner ≡ q → (r : Rec) → slot_record i q ≡ Some r → Answers i corner (Some r)
  unfolding slot_record
  present None e r h = absurd (none_some r h)
  present (Some s) e r h =
      by_cond (λ (x : Option Rec). x ≡ Some r → Answers i corner (Some r)) (ltb s i.count)
      (λ t z.
      let p = record_at_lem i s r z in (
        (s, record { chunk = k; slot = e; published = ltb-true s i.count t; holds = p.0 }),
        some_inv _ _ (sym p.1 ∙ slot_chunk_at i.grid b corner s k e),
      ))
      (λ t z. absurd (none_some r z)) h

  -- The record of a corner's slot answers for the corner. Every rank.
  pub answers : (x : Option Rec) → slot_record i (slot_of i.grid corner) ≡ x → Answers i corner x
  answers None h = λ s e p. none_some _ (sym h ∙ recorded s e p)
  answers (Some r) h = present (slot_of i.grid corner) refl r h

-- What answers for a corner agrees with an exact list.
pub agrees : (i : Index) (l : List Rec) (n : ℕ) (corner : List ℕ) (x : Option Rec) → ExactList i l n → Answers i corner x → Agrees l corner x
agrees i l n corner None j q =
    λ r m e. let s = j.listed r m in q s.0 r.entry (subst (λ (y : List ℕ). Stored i y s.0 r.entry) e s.1)
agrees i l n corner (Some r) j q =
    let s = q.0 in
    (subst (λ (y : List ℕ). Memᴰ (record { entry = r.entry; corner = y }) l) (sym q.1) (j.whole corner s.0 r.entry s.1), q.1)
