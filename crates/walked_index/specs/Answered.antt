-- What a lookup that is accepted says of what it finds.
use Rattle.std.specs.Prelude.{ℕ, ◌<◌, ◌≡◌, true, List, Ok, Option}
use Rattle.chunk_grid.specs.Grid.{Grid, is_chunk}
use Rattle.index.specs.Index.{Index, Rec, Listing}
use Rattle.index.specs.ExactList.{Answers, Agrees}
use Rattle.elements.specs.Values.{found_of}
use Rattle.index.specs.declared.Entry.{Entry}
use Rattle.refusal.specs.Refusals.{Outcome}

-- What an accepted lookup says of what was found.
abbrev pub Answered : Outcome (Option Rec) → Index → List ℕ → Outcome (Option Entry) → Type 0
Answered a i corner found = (x : Option Rec) → a ≡ Ok x → (found ≡ found_of (Ok x)) × Answers i corner x

-- Where the list is accepted, lookup of any chunk refuses nothing and gives that chunk's record, or absent where the
-- list has none. Rank 1 to 32.
abbrev pub Agreed : Listing → Grid → List ℕ → Outcome (Option Entry) → Type 0
Agreed listing g corner found =
    (l : List Rec) → 0 < g.rank → listing ≡ Ok l → is_chunk g corner ≡ true
    → (x : Option Rec) × (found ≡ found_of (Ok x)) × Agrees l corner x
