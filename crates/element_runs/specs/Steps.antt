-- What the elements that are left of a run begin with.
use Rattle.std.specs.Prelude.{ℕ, ◌<◌, ◌≤◌, ◌≡◌, List, [], take, Err, Ok}
use Rattle.refusal.specs.Refusals.{Outcome}
use Rattle.chunk_grid.specs.Grid.{Grid, offsets}
use Rattle.chunk_slots.specs.Lines.{InLine}
use Rattle.chunk_slots.specs.declared.Line as lines
use Rattle.elements.specs.declared.ElementReader.{ElementReader}
use Rattle.elements.specs.Runs.{elements_from}
use Rattle.elements.specs.Values.{elements_of, Reads}
use Rattle.element_runs.specs.declared.step.Step.{Step}
use Rattle.element_runs.specs.declared.step.Step.TheVariants.{Gap, Line}

-- The reader is made of this grid and element size, `corner` has the offsets of slot s, and a line lies from s on.
pub record ReadsLine (r : ElementReader) (corner : List ℕ) (line : lines.Line) (grid : Grid) (n s : ℕ) : Type 0 where
  pub reads : Reads r grid n
  pub begins : corner ≡ offsets grid s
  pub lies : InLine grid r.numbering.now.grid.now.chunk s line

-- n elements from pos on, whose slots begin at s, begin with such a step, or they are refused, whichever grid and
-- element size the reader is made of; `corner` is an array that begins with a line's offsets.
abbrev pub StepOf : List ℕ → ElementReader → List ℕ → ℕ → ℕ → ℕ → Outcome Step → Type 0
StepOf file r corner pos n s (Ok (Gap m)) =
    (0 < m) × (m ≤ n)
    × ((grid : Grid) (k : ℕ) → Reads r grid k → elements_from (elements_of file r grid k) pos m s (Ok []) ≡ Ok [])
StepOf file r corner pos n s (Ok (Line line)) =
    (grid : Grid) (k : ℕ) → Reads r grid k → ReadsLine r (take r.numbering.now.grid.now.rank corner) line grid k s
StepOf file r corner pos n s (Err x) =
    (grid : Grid) (k : ℕ) → Reads r grid k → elements_from (elements_of file r grid k) pos n s (Ok []) ≡ Err x
