-- What a list of an index is that is complete and exact, and what the answer to one corner says.
use Rattle.std.specs.Prelude.{ℕ, suc, ◌+◌, ◌<◌, ◌≡◌, true, length, None, Option, Some}
use mathlib.Core.List.{List, [], ◌∷◌, Memᴰ}
use Rattle.chunk_grid.specs.Grid.{is_chunk, slot_of}
use Rattle.index.specs.declared.Entry.{Entry}
use Rattle.index.specs.Index.{Index, Rec}

-- The chunk at this corner has slot s, below the published count, and the place of that slot holds e.
pub record Stored (i : Index) (corner : List ℕ) (s : ℕ) (e : Entry) : Type 0 where
  pub chunk : is_chunk i.grid corner ≡ true
  pub slot : slot_of i.grid corner ≡ Some s
  pub published : s < i.count
  pub holds : i.held s ≡ Some e

-- some chunk is stored at slot s
abbrev pub Used : Index → ℕ → Type 0
Used i s = (corner : List ℕ) × (e : Entry) × Stored i corner s e

-- of the m slots from s on, k have P
pub data Tally (P : ℕ → Type 0) : ℕ → ℕ → ℕ → Type 0 where
  end : (s : ℕ) → Tally P s 0 0
  hit : (s m k : ℕ) → P s → Tally P (s + 1) m k → Tally P s (suc m) (suc k)
  miss : (s m k : ℕ) → (P s → ⊥) → Tally P (s + 1) m k → Tally P s (suc m) k

-- the slots of the records rise strictly
abbrev pub Rising : Index → List Rec → Type 0
Rising i [] = Unit {0}
Rising i (r ∷ l) =
    ((q : Rec) → Memᴰ q l → (s t : ℕ) → slot_of i.grid r.corner ≡ Some s → slot_of i.grid q.corner ≡ Some t
    → s < t) × Rising i l

-- A list of records with the count that is answered.
pub record ExactList (i : Index) (l : List Rec) (count : ℕ) : Type 0 where
  -- every record is of a stored chunk: its corner, and what the place of its slot holds
  pub listed : (r : Rec) → Memᴰ r l → (s : ℕ) × Stored i r.corner s r.entry
  -- every stored chunk has its record
  pub whole : (corner : List ℕ) (s : ℕ) (e : Entry) → Stored i corner s e
      → Memᴰ (record { entry = e; corner = corner }) l
  -- records rise by slot, so no chunk stands twice
  pub rising : Rising i l
  -- the count is the number of records ..
  pub counted : count ≡ length l
  -- .. and the number of the stored chunks
  pub tallied : Tally (Used i) 0 i.count count

-- What the answer to a corner says: a record is the corner's, with what the place of its slot, below the count, holds;
-- absent says that no such slot and place are the corner's.
abbrev pub Answers : Index → List ℕ → Option Rec → Type 0
Answers i corner (Some r) = ((s : ℕ) × Stored i corner s r.entry) × (r.corner ≡ corner)
Answers i corner None = (s : ℕ) (e : Entry) → Stored i corner s e → ⊥

-- How it agrees with a list: it is the corner's record of the list, or the list has none.
abbrev pub Agrees : List Rec → List ℕ → Option Rec → Type 0
Agrees l corner (Some r) = Memᴰ r l × (r.corner ≡ corner)
Agrees l corner None = (r : Rec) → Memᴰ r l → r.corner ≡ corner → ⊥
