-- The chunk of a slot.
use Rattle.std.specs.Prelude.{ℕ, not, cond, ◌||◌, List, None, Option, Some}
use Rattle.chunk_grid.specs.Grid.{Grid, numbers_nothing, below, offsets}

-- The chunk of a slot, where it has one: where the grid numbers something and the slot's offsets lie below the
-- present extents.
unfoldable pub chunk_at : Grid → ℕ → Option (List ℕ)
chunk_at g s = cond (numbers_nothing g || not (below (offsets g s) g.present)) None (Some (offsets g s))
