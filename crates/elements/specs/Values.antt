-- What the code's values stand for.
use Rattle.std.specs.Prelude.{ℕ, ◌≡◌, List, Err, None, Ok, Option, Some}
use Rattle.refusal.specs.Refusals.{figure, Outcome}
use Rattle.chunk_grid.specs.Grid.{Grid}
use Rattle.chunk_grid.specs.Numberings.{NumbersOf, ExtentsOf}
use Rattle.index.specs.declared.Entry.{Entry}
use Rattle.index.specs.Index.{Rec}
use Rattle.elements.specs.declared.ElementReader.{ElementReader}
use Rattle.elements.specs.Elements.{Elements, chunk_bytes}

-- What reading an element and looking up a chunk answer: that there is no chunk or the chunk's entry, or a refusal. The
-- record's corner is the one of the slot that was asked for.
unfoldable pub found_of : Outcome (Option Rec) → Outcome (Option Entry)
found_of (Err r) = Err r
found_of (Ok None) = Ok None
found_of (Ok (Some x)) = Ok (Some x.entry)

-- the chunk with this corner and entry
abbrev pub recorded : List ℕ → Entry → Outcome (Option Rec)
recorded corner e = Ok (Some (record { entry = e; corner = corner }))

-- The elements that a file and a reader stand for, of a dataset with this grid and element size.
abbrev pub elements_of : List ℕ → ElementReader → Grid → ℕ → Elements
elements_of file r grid n = record { file = file; form = r.form; grid = grid; element_bytes = n; count = r.count }

-- The reader and its numbering are made of this grid and element size.
pub record Reads (r : ElementReader) (grid : Grid) (n : ℕ) : Type 0 where
  pub chunked : r.chunk_bytes ≡ figure (chunk_bytes grid n)
  pub numbered : NumbersOf r.numbering.now grid
  pub extended : ExtentsOf r.numbering.now grid
