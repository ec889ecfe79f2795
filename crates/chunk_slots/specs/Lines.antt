-- Slots in a line.
use Rattle.std.specs.Prelude.{ℕ, ◌+◌, ◌*◌, ◌<◌, ◌≤◌, ◌≡◌, true, List, get_or, set, Ok}
use Rattle.refusal.specs.Refusals.{largest64}
use Rattle.chunk_slots.specs.declared.Line.{Line}
use Rattle.chunk_grid.specs.Grid.{Grid, offsets}
use Rattle.chunk_grid.specs.Values.{in_extent, offsets_of}

-- The slots of line r, from slot s on, lie in the present extents. Their offsets are those of s but for one
-- dimension's, where slot s + j has first + j times the chunk's length; `chunk` is an array that begins with the
-- chunk's lengths.
pub record InLine (g : Grid) (chunk : List ℕ) (s : ℕ) (r : Line) : Type 0 where
  pub some : 0 < r.slots
  pub within : r.dim < 32
  pub inside : (j : ℕ) → j < r.slots → offsets_of (in_extent g (s + j)) ≡ Ok true
  pub fits : (j : ℕ) → j < r.slots → (r.first + j) * get_or chunk r.dim 0 ≤ largest64
  pub corner : (j : ℕ) → j < r.slots
      → offsets g (s + j) ≡ set (offsets g s) r.dim ((r.first + j) * get_or chunk r.dim 0)
