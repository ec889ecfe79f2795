-- The records of an index: those of its slots, and those from a slot on to the published count. Assumes nothing.
use Prim.Native.Nat.{ℕ, zero, suc, ◌+◌, ◌-◌, ◌<◌, ◌≤◌}
use mathlib.Core.Path.{◌≡◌, refl, sym, ap, ◌∙◌}
use mathlib.Core.List.{List, [], ◌++◌, Memᴰ}
use mathlib.Core.Logic.{⊎_elim}
use native.Mathlib.Omega.{arith}
use native.Mathlib.Nat.{sub-zero, eq-or-lt_of_le}
use lib.ListN.{length}
use Rattle.std.specs.Prelude.{None, Option, Some}
use Rattle.chunk_grid.specs.Chunks.{chunk_at}
use Rattle.chunk_grid.proofs.Grids.{Accepted, length-offsets}
use Rattle.chunk_grid.proofs.Chunks.{chunk_at_inv}
use Rattle.index.specs.declared.Entry.{Entry}
use Rattle.index.specs.Index.{Index, Rec}
use Rattle.index.specs.SlotRecords.{record_of, record_at, with, records}
use Rattle.index.proofs.Steps.{first_slot_lem, other_slots}

pub none_some : {A : Type 0} (a : A) → None ≡ Some a → ⊥
none_some a h = let z : ◌≡◌ {A = ℕ} 0 1 = cc in omega arith

pub some_inv : {A : Type 0} (a b : A) → Some a ≡ Some b → a ≡ b
some_inv a b h = cc

-- a record of a slot: what its place holds, and its chunk
record_inv : (e : Option Entry) (k : Option (List ℕ)) (r : Rec) → record_of e k ≡ Some r → (e ≡ Some r.entry) × (k ≡ Some r.corner)
unfolding record_of
record_inv None k r h = absurd (none_some r h)
record_inv (Some e) None r h = absurd (none_some r h)
record_inv (Some e) (Some corner) r h =
    let q = some_inv _ _ h in
    (ap (λ (x : Rec). Some x.entry) q, ap (λ (x : Rec). Some x.corner) q)

-- what stands in front of a list
here_with : (x : Option Rec) (l : List Rec) (r : Rec) → x ≡ Some r → Memᴰ r (with x l)
unfolding with
here_with None l r e = absurd (none_some r e)
here_with (Some y) l r e = mathlib.Core.List.Memᴰ.head (sym (some_inv _ _ e))

there_with : (x : Option Rec) (l : List Rec) (r : Rec) → Memᴰ r l → Memᴰ r (with x l)
unfolding with
there_with None l r h = h
there_with (Some y) l r h = mathlib.Core.List.Memᴰ.tail h

module _ (i : Index) where
  pub record_at_lem : (s : ℕ) (r : Rec) → record_at i s ≡ Some r → (i.held s ≡ Some r.entry) × (chunk_at i.grid s ≡ Some r.corner)
  unfolding record_at
  record_at_lem s r h = record_inv (i.held s) (chunk_at i.grid s) r h

  -- a member of the records is the record of one of the slots
  abbrev pub RecordFrom : ℕ → ℕ → Rec → Type 0
  RecordFrom s m r = (t : ℕ) × (s ≤ t) × (t < s + m) × (record_at i t ≡ Some r)

  listed_with : (s m : ℕ) (x : Option Rec) (l : List Rec) → record_at i s ≡ x → ((r : Rec) → Memᴰ r l → RecordFrom (s + 1) m r)
      → (r : Rec) → Memᴰ r (with x l) → RecordFrom s (suc m) r
  unfolding with
  listed_with s m None l e k r h = let g = k r h in (g.0, omega arith, omega arith, g.3)
  listed_with s m (Some y) l e k r h =
      ⊎_elim
      (λ (q : r ≡ y). (s, omega arith, omega arith, e ∙ ap (λ (z : Rec). Some z) (sym q)))
      (λ (h' : Memᴰ r l). let g = k r h' in (g.0, omega arith, omega arith, g.3))
      (mathlib.Core.List.Memᴰ.cases_cons h)

  pub listed : (m s : ℕ) (r : Rec) → Memᴰ r (records i s m) → RecordFrom s m r
  unfolding records
  listed zero s r h = absurd (mathlib.Core.List.Memᴰ.not-nil h)
  listed (suc m) s r h = listed_with s m (record_at i s) (records i (s + 1) m) refl (listed m (s + 1)) r h

  -- and the record of each of the slots is a member
  pub whole : (m s t : ℕ) (r : Rec) → s ≤ t → t < s + m → record_at i t ≡ Some r → Memᴰ r (records i s m)
  unfolding records
  whole zero s t r h k p = absurd (omega arith)
  whole (suc m) s t r h k p =
      ⊎_elim
      (λ (q : s ≡ t). here_with (record_at i s) (records i (s + 1) m) r (ap (record_at i) q ∙ p))
      (λ (q : s < t). there_with (record_at i s) (records i (s + 1) m) r (whole m (s + 1) t r (omega arith) (omega arith) p))
      (eq-or-lt_of_le h)

with_more : (x : Option Rec) (l m : List Rec) → with x (l ++ m) ≡ with x l ++ m
unfolding with
with_more None l m = refl
with_more (Some r) l m = refl

module _ (i : Index) where
  -- the records of slots in two parts
  pub records_split : (a b s : ℕ) → records i s (a + b) ≡ records i s a ++ records i (s + a) b
  unfolding records
  records_split zero b s =
      let z : s + 0 ≡ s = omega arith in
      let y : 0 + b ≡ b = omega arith in
      rw (y, z) refl
  records_split (suc a) b s =
      let z : s + 1 + a ≡ s + suc a = omega arith in
      let y : suc a + b ≡ suc (a + b) = omega arith in
      ap (records i s) y
      ∙ ap (with (record_at i s)) (records_split a b (s + 1)) ∙ with_more (record_at i s) (records i (s + 1) a) (records i (s + 1 + a) b)
      ∙ ap (λ (x : ℕ). with (record_at i s) (records i (s + 1) a) ++ records i x b) z

  -- slots that have none
  pub records_none : (n s : ℕ) → ((j : ℕ) → j < n → record_at i (s + j) ≡ None) → records i s n ≡ []
  unfolding records with
  records_none zero s h = refl
  records_none (suc n) s h =
      rw (first_slot_lem (λ (t : ℕ). record_at i t ≡ None) s n h) (records_none n (s + 1) (other_slots (λ (t : ℕ). record_at i t ≡ None) s n h))

  -- a record's corner is of the grid's rank
  pub record_rank : Accepted i.grid → (s : ℕ) (r : Rec) → record_at i s ≡ Some r → length r.corner ≡ i.grid.rank
  record_rank b s r h = ap length (sym (chunk_at_inv i.grid s r.corner (record_at_lem i s r h).1).2) ∙ length-offsets i.grid b s

-- the records of the slots from s on to the published count
unfoldable pub from : Index → ℕ → List Rec
from i s = records i s (i.count - s)

module _ (i : Index) where
  pub from_end : (s : ℕ) → i.count ≤ s → from i s ≡ []
  unfolding from records
  from_end s h = let z : i.count - s ≡ 0 = omega arith in rw z

  pub from_more : (s : ℕ) (x : Option Rec) → s < i.count → record_at i s ≡ x → from i s ≡ with x (from i (s + 1))
  unfolding from records
  from_more s x h p =
      let z : i.count - s ≡ suc (i.count - (s + 1)) = omega arith in
      rw z (ap (λ (y : Option Rec). with y (records i (s + 1) (i.count - (s + 1)))) p)

  pub from_first : from i 0 ≡ records i 0 i.count
  unfolding from
  from_first = rw sub-zero refl

  -- the records that are left, in two parts
  pub from_split : (s m : ℕ) → m ≤ i.count - s → from i s ≡ records i s m ++ from i (s + m)
  unfolding from
  from_split s m le =
      let z : i.count - s ≡ m + (i.count - (s + m)) = omega arith in
      ap (records i s) z ∙ records_split i m (i.count - (s + m)) s
