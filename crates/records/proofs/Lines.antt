-- Slots of a line: their offsets, as they are computed. Assumes nothing.
use Prim.Native.Nat.{ℕ, ◌+◌, ◌*◌, ◌^◌, ◌<◌, ◌≤◌}
use mathlib.Core.Path.{◌≡◌, sym}
use mathlib.Core.List.{List, []}
use native.Mathlib.Omega.{arith}
use lib.ListN.{get_or, set}
use Rattle.std.specs.Prelude.{Ok, true}
use Rattle.chunk_grid.specs.Grid.{Grid, offsets}
use Rattle.chunk_grid.specs.Values.{in_extent, offsets_of}
use Rattle.chunk_slots.specs.declared.Line.{Line}
use Rattle.index.specs.Index.{Rec}
use Rattle.elements.specs.declared.ElementReader.{ElementReader}
use Rattle.elements.specs.Runs.{elements_from}
use Rattle.elements.specs.Values.{elements_of, Reads}
use Rattle.element_runs.specs.Steps.{ReadsLine}

module _ {r : ElementReader} {corner : List ℕ} {line : Line} {grid : Grid} {m s : ℕ} (q : ReadsLine r corner line grid m s) where
  abbrev pub step_of : ℕ
  step_of = get_or r.numbering.now.grid.now.chunk line.dim 0

  -- slot i of the line
  module _ (i : ℕ) (h : i < line.slots) where
    together : (line.first + i) * step_of ≡ line.first * step_of + i * step_of
    together = omega arith

    pub line_fits : line.first * step_of + i * step_of < 2 ^ 64
    line_fits = omega (arith, together, q.lies.fits i h)

    pub line_corner : set corner line.dim (line.first * step_of + i * step_of) ≡ offsets grid (s + i)
    line_corner = rw (q.begins, ← together) (sym (q.lies.corner i h))

  -- its first
  pub line_begins : line.first * step_of < 2 ^ 64
  line_begins = omega (arith, line_fits 0 q.lies.some)

-- A run of slots that lie in a line, below the count, is accepted: their corners are the first one's, but for dimension
-- `dim`, whose offset grows from `first` by `step`.
pub record Lined (file : List ℕ) (r : ElementReader) (corner : List ℕ) (dim first step pos n : ℕ) (grid : Grid) (m s : ℕ) (l : List Rec) : Type 0 where
  pub reads : Reads r grid m
  pub is : elements_from (elements_of file r grid m) pos n s (Ok []) ≡ Ok l
  pub below : s + n ≤ r.count
  pub inside : (i : ℕ) → i < n → offsets_of (in_extent grid (s + i)) ≡ Ok true
  pub corners : (i : ℕ) → i < n → set corner dim (first + i * step) ≡ offsets grid (s + i)

pub lined : {file : List ℕ} {r : ElementReader} {corner : List ℕ} {line : Line} {pos n : ℕ} → n ≤ line.slots → {grid : Grid} {m s : ℕ} {l : List Rec}
    → ReadsLine r corner line grid m s → elements_from (elements_of file r grid m) pos n s (Ok []) ≡ Ok l → s + n ≤ r.count
    → Lined file r corner line.dim (line.first * get_or r.numbering.now.grid.now.chunk line.dim 0) (get_or r.numbering.now.grid.now.chunk line.dim 0) pos n grid m s l
lined k q e b = record {
  reads = q.reads;
  is = e;
  below = b;
  inside = λ i h. q.lies.inside i (omega arith);
  corners = λ i h. line_corner q i (omega arith);
}
