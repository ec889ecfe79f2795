-- The records that follow from an index.
use Rattle.std.specs.Prelude.{ℕ, zero, suc, ◌+◌, List, [], ◌∷◌, None, Option, Some}
use Rattle.chunk_grid.specs.Chunks.{chunk_at}
use Rattle.index.specs.declared.Entry.{Entry}
use Rattle.index.specs.Index.{Index, Rec}

-- the record of a slot: what its place holds, and its chunk's corner
unfoldable pub record_of : Option Entry → Option (List ℕ) → Option Rec
record_of None k = None
record_of (Some e) None = None
record_of (Some e) (Some corner) = Some (record { entry = e; corner = corner })

unfoldable pub record_at : Index → ℕ → Option Rec
record_at i s = record_of (i.held s) (chunk_at i.grid s)

unfoldable pub with : Option Rec → List Rec → List Rec
with None l = l
with (Some r) l = r ∷ l

-- the records of the m slots from s on
unfoldable pub records : Index → ℕ → ℕ → List Rec
records i s zero = []
records i s (suc m) = with (record_at i s) (records i (s + 1) m)
