-- Slots that all lie in the present extents, as far as the largest quotients say so.
use Rattle.std.specs.Prelude.{ℕ, Bool, true, false, not, ◌&&◌, List, [], ◌∷◌, leb}
use Rattle.chunk_grid.specs.Grid.{Grid, pairwise, ceil_div, leading, to_front, ordered, multipliers, numbers_nothing}

-- All numbers below n have a first quotient below its bound, then all rests below the multiplier a second one, and so
-- on.
unfoldable pub all_below : ℕ → List ℕ → List ℕ → Bool
all_below n [] bs = true
all_below n (m ∷ ms) [] = false
all_below n (m ∷ ms) (b ∷ bs) = leb (ceil_div n m) b && all_below m ms bs

-- The grid numbers something, and the quotients of each of the first n slots lie below the numbers of chunks that the
-- present extents reach into.
unfoldable pub all_inside : Grid → ℕ → Bool
all_inside g n =
    not (numbers_nothing g) && all_below n (multipliers (ordered g))
    (to_front (leading g) (pairwise ceil_div g.present g.chunk))
