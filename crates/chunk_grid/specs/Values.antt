-- What the code's values stand for.
use Rattle.std.specs.Prelude.{Err, None, Ok, Option, Some}
use Rattle.std.specs.Prelude.{ℕ, zero, suc, ◌≡◌, Bool, true, false, not, cond, List, [], ltb, take, drop}
use Rattle.std.specs.Option.{is_some, unwrap_or}
use Rattle.refusal.specs.declared.Refusal.TheVariants.{ChunkLength}
use Rattle.refusal.specs.Refusals.{refuse, ◌then◌, Checked, Outcome}
use Rattle.refusal.specs.Outcome.{◌yields◌}
use Rattle.chunk_grid.specs.declared.ChunkGrid.{ChunkGrid}
use Rattle.chunk_grid.specs.Grid.{Grid, pairwise, ceil_div, count_of, counts, leading_in, leading, to_front}
use Rattle.chunk_grid.specs.Grid.{ordered, multipliers, has_zero, numbers_nothing, offsets, overflows, below}
use Rattle.chunk_grid.specs.Grid.{offsets_test, multiplier_test, product_test, grid_test, given}

-- the grid that a value of the code describes: the first `rank` members of its arrays
unfoldable pub grid_of : ChunkGrid → Grid
grid_of k =
    given k.rank (take k.rank k.chunk) (take k.rank k.present) (is_some k.maximum)
    (take k.rank (unwrap_or k.maximum [])) k.order

-- the grid that an answer's value describes
unfoldable pub grids : Outcome ChunkGrid → Outcome Grid
grids (Ok k) = Ok (grid_of k)
grids (Err r) = Err r

-- what building a grid comes to: the grid, where it passes its test
unfoldable pub built : Grid → Outcome Grid
built g = grid_test g yields Ok g

-- the dimension at place i of the grid's order
unfoldable pub dim_at : ℕ → ℕ → ℕ
dim_at u zero = u
dim_at u (suc i) = cond (ltb i u) i (suc i)

-- the tests of the counts
unfoldable pub counts_test : Bool → List ℕ → Checked
counts_test unlimited_first cs =
    multiplier_test (drop 1 (to_front (leading_in unlimited_first cs) cs)) then product_test 1 cs

-- the tests behind those of the shapes, over the extents that the counts are taken from
unfoldable pub numbering_test : Bool → List ℕ → List ℕ → Checked
numbering_test unlimited_first limits chunk =
    refuse ChunkLength (has_zero chunk)
    then counts_test unlimited_first (pairwise count_of limits chunk)

-- what is made where these have passed
pub record Made (unlimited_first : Bool) (limits present chunk : List ℕ) (rotated : ℕ) (numbers : Bool)
    (counts bound down : List ℕ) : Type 0 where
  pub leads : rotated ≡ leading_in unlimited_first (pairwise count_of limits chunk)
  pub numbering : numbers ≡ not (has_zero (drop 1 (to_front rotated (pairwise count_of limits chunk))))
  pub counted : counts ≡ pairwise count_of limits chunk
  pub bounds : bound ≡ pairwise ceil_div present chunk
  pub downs : down ≡ multipliers (to_front rotated (pairwise count_of limits chunk))

-- What is made of a built grid g once: the leading dimension, and the multipliers in the grid's order, beside the
-- chunk's lengths.
pub record GridNumbers (rank rotated : ℕ) (chunk down : List ℕ) (g : Grid) : Type 0 where
  pub built : grid_test g ≡ Ok tt
  pub ranked : rank ≡ g.rank
  pub leads : rotated ≡ leading g
  pub chunks : take rank chunk ≡ g.chunk
  pub downs : take rank down ≡ multipliers (ordered g)

-- And its counts.
abbrev pub GridCounts : ℕ → List ℕ → Grid → Type 0
GridCounts rank l g = take rank l ≡ counts g

-- And for its present extents: whether it numbers anything, and how many chunks the extents reach into in each
-- dimension.
pub record Extents (rank : ℕ) (numbers : Bool) (bound : List ℕ) (g : Grid) : Type 0 where
  pub numbering : numbers ≡ not (numbers_nothing g)
  pub bounds : take rank bound ≡ pairwise ceil_div g.present g.chunk
  pub fits : overflows g.present ≡ false

-- All of them, of one grid.
pub record Describes (rank rotated : ℕ) (numbers : Bool) (chunk counts bound down : List ℕ) (g : Grid) : Type 0 where
  pub numbered : GridNumbers rank rotated chunk down g
  pub counted : GridCounts rank counts g
  pub extended : Extents rank numbers bound g

-- What a slot's offsets come to: 32, 33, else the offsets where all of them lie below the present extents. A slot whose
-- offsets don't is dropped, without refusal.
unfoldable pub in_extent : Grid → ℕ → Outcome (Option (List ℕ))
in_extent g s = offsets_test g s yields Ok (cond (below (offsets g s) g.present) (Some (offsets g s)) None)

-- What computing them answers: the refusal, or whether the slot lies inside; its offsets are handed over beside the
-- answer.
unfoldable pub offsets_of : Outcome (Option (List ℕ)) → Outcome Bool
offsets_of (Err r) = Err r
offsets_of (Ok None) = Ok false
offsets_of (Ok (Some corner)) = Ok true
