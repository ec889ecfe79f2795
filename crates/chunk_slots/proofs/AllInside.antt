-- Where the largest quotients lie below their bounds, so do all: what a turn of the loop over the places keeps, and
-- what follows for slots. Assumes nothing.
use Prim.Native.Nat.{ℕ, ◌+◌, ◌-◌, ◌*◌, ◌/◌, ◌%◌, ◌<◌, ◌≤◌}
use mathlib.Core.Path.{◌≡◌, refl, sym, ◌∙◌}
use mathlib.Core.Bool.{Bool, true, false, not, ◌&&◌}
use mathlib.Core.List.{List, [], ◌∷◌}
use native.Mathlib.Nat.{le-div_iff_mul-le, mod-lt}
use native.Mathlib.Numerals.{add-one}
use native.Mathlib.Omega.{arith}
use borrow.Author.Tests.{lt-ltb, le-leb, lt-leb, leb-true, ltb-true, not-true}
use lib.Dec.{leb}
use lib.ListN.{length, get_or, take, drop, length-take, drop_of_length-le}
use lib.Seq.{drop-cons, get_or-take}
use Rattle.std.specs.Prelude.{Ok}
use Rattle.refusal.proofs.Tests.{both, false_true}
use Rattle.chunk_grid.specs.Grid.{Grid, every, ceil_div, ordered, multiplier, multipliers, quotients, offsets, below, numbers_nothing}
use Rattle.chunk_grid.specs.Values.{dim_at, GridNumbers, Extents, in_extent, offsets_of}
use Rattle.chunk_slots.specs.AllInside.{all_below, all_inside}
use Rattle.chunk_grid.proofs.Grids.{multiplier_pos}
use Rattle.chunk_grid.proofs.Places.{in_order, length_order, order_at}
use Rattle.chunk_slots.proofs.Extents.{ceil_lt, bound_are, below_is}
use Rattle.chunk_grid.proofs.Slots.{below-fits, inside}

-- the quotient of a number below n
quotient_below : (n m s : ℕ) → 0 < m → s < n → s / m < ceil_div n m
quotient_below n m s pos h =
    let l : s / m * m ≤ s = (le-div_iff_mul-le pos).0 (omega arith) in
    ltb-true (s / m) (ceil_div n m) (sym (ceil_lt (s / m) m n pos) ∙ lt-ltb (s / m * m) n (omega arith))

pub all_below_lem : (cs bs : List ℕ) (n s : ℕ) → all_below n (multipliers cs) bs ≡ true → s < n → below (quotients s (multipliers cs)) bs ≡ true
unfolding all_below multipliers quotients below every
all_below_lem [] bs n s h l = refl
all_below_lem (c ∷ cs) [] n s h l = absurd (false_true h)
all_below_lem (c ∷ cs) (b ∷ bs) n s h l =
    let t = both (leb (ceil_div n (multiplier cs)) b) (all_below (multiplier cs) (multipliers cs) bs) h in
    let q = quotient_below n (multiplier cs) s (multiplier_pos cs) l in
    let k = leb-true (ceil_div n (multiplier cs)) b t.0 in
    rw (lt-ltb (s / multiplier cs) b (omega arith)) (all_below_lem cs bs (multiplier cs) (s % multiplier cs) t.1 (mod-lt s (multiplier_pos cs)))

-- Over arrays, of which the first `rank` members count: what is left to ask of the places from i on.
pub record Asking (n rank u : ℕ) (bound down : List ℕ) (rests i : ℕ) : Type 0 where
  pub within : i ≤ rank
  pub whole : all_below rests (drop i (take rank down)) (drop i (in_order rank u bound)) ≡ all_below n (take rank down) (in_order rank u bound)

pub asking_first : (n rank u : ℕ) (bound down : List ℕ) → Asking n rank u bound down n 0
asking_first n rank u bound down = record { within = omega arith; whole = refl }

module _ {n rank u : ℕ} {bound down : List ℕ} {rests i : ℕ} (a : Asking n rank u bound down rests i) (room : rank ≤ length down) where
  size_down : length (take rank down) ≡ rank
  size_down = length-take rank down ∙ omega arith

  pub asking_done : rank ≤ i → all_below n (take rank down) (in_order rank u bound) ≡ true
  unfolding all_below
  asking_done h = let e = drop_of_length-le (take rank down) {i = i} (omega (arith, size_down)) in sym a.whole ∙ rw e refl

  module _ (h : i < rank) (leads : u ≤ rank - 1) (wide : rank ≤ length bound) where
    step : all_below rests (drop i (take rank down)) (drop i (in_order rank u bound))
        ≡ leb (ceil_div rests (get_or down i 0)) (get_or bound (dim_at u i) 0) && all_below (get_or down i 0) (drop (i + 1) (take rank down)) (drop (i + 1) (in_order rank u bound))
    unfolding all_below
    step =
        let d = drop-cons (take rank down) i 0 (omega (arith, size_down)) in
        let b = drop-cons (in_order rank u bound) i 0 (omega (arith, length_order rank u bound leads wide)) in
        rw (d, b, get_or-take rank down i 0 h, order_at rank u bound leads wide i h, add-one) refl

    pub asking_stop : get_or bound (dim_at u i) 0 < ceil_div rests (get_or down i 0) → false ≡ all_below n (take rank down) (in_order rank u bound)
    asking_stop l = sym (step ∙ rw (lt-leb (ceil_div rests (get_or down i 0)) (get_or bound (dim_at u i) 0) l) refl) ∙ a.whole

    pub asking_more : ceil_div rests (get_or down i 0) ≤ get_or bound (dim_at u i) 0 → Asking n rank u bound down (get_or down i 0) (i + 1)
    asking_more l = record {
      within = omega arith;
      whole = sym (step ∙ rw (le-leb (ceil_div rests (get_or down i 0)) (get_or bound (dim_at u i) 0) l) refl) ∙ a.whole;
    }

-- For a built grid with its numbers.
module _ (g : Grid) (rank u : ℕ) (chunk down : List ℕ) (n : GridNumbers rank u chunk down g) (numbers : Bool) (bound : List ℕ) (x : Extents rank numbers bound g) (k : ℕ) where
  pub asked : numbers ≡ true → all_below k (take rank down) (in_order rank u bound) ≡ all_inside g k
  unfolding all_inside
  asked e = rw (← x.numbering, e, n.downs, bound_are g rank u chunk down n numbers bound x k) refl

  pub unasked : numbers ≡ false → false ≡ all_inside g k
  unfolding all_inside
  unasked e = rw (← x.numbering, e) refl

  -- what the answer says of each slot
  pub all_inside_lem : all_inside g k ≡ true → (s : ℕ) → s < k → offsets_of (in_extent g s) ≡ Ok true
  unfolding all_inside
  all_inside_lem h s l =
      let t = both (not (numbers_nothing g)) _ h in
      let q = all_below_lem (ordered g) _ k s t.1 l in
      let b : below (offsets g s) g.present ≡ true =
      sym (below_is g rank u chunk down n numbers bound x s) ∙ (rw (n.downs, bound_are g rank u chunk down n numbers bound x s) q) in
      inside g s (not-true _ t.0) (below-fits (offsets g s) g.present b x.fits) b
