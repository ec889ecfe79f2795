-- An index: which entry each slot holds; records of it.
use Rattle.std.specs.Prelude.{ℕ, List, Option}
use Rattle.chunk_grid.specs.Grid.{Grid}
use Rattle.index.specs.declared.Entry.{Entry}
use Rattle.refusal.specs.Refusals.{Outcome}

-- The grid that numbers the chunks, the published count, from which on no slot is in use, and what the place of each
-- slot holds.
pub record Index : Type 0 where
  pub grid : Grid
  pub count : ℕ
  pub held : ℕ → Option Entry

-- a record of the list: what the chunk's place holds, and the chunk's corner
pub record Rec : Type 0 where
  pub entry : Entry
  pub corner : List ℕ

-- a list of records, or the refusal
abbrev pub Listing : Type 0
Listing = Outcome (List Rec)
