-- `chunk_slots::offsets_in_extent` meets its contract: the loop turns as `Turn` says. Assumes nothing.
use Prim.Native.Nat.{◌*◌, ◌<◌, ◌≤◌}
use native.Mathlib.Omega.{arith}
use mathlib.Core.Path.{◌≡◌}
use lib.ListN.{get_or}
use Rattle.refusal.specs.Refusals.{largest64}
use Rattle.chunk_grid.specs.Grid.{Grid}
use Rattle.chunk_grid.specs.Numberings.{NumbersOf, ExtentsOf}
use Rattle.chunk_grid.specs.Values.{in_extent, offsets_of}
use Rattle.chunk_slots.specs.Values.{handed}
use Rattle.chunk_grid.proofs.Places.{dim_lt}
use Rattle.chunk_slots.proofs.Extents.{turn_first, turn_more, answered, turned, unnumbered}
use Rattle.chunk_slots.proofs.AnyGrid.{rank_small, leads_low, arrays_room, length_pos, multiplier_pos, offset_small}
use Rattle.chunk_slots.proofs.offsets_in_extent.Goals.{After-dim_at-d, After-loop-i, After-quotient-q}
use Rattle.chunk_slots.proofs.offsets_in_extent.Goals as goal

-- the dimension of a place is one of the grid's
dim : (c : After-dim_at-d) → c.dim_at-d.result < c.args.numbering.now.grid.now.rank
dim c = rw c.dim_at-d.ensures (dim_lt _ _ _ (omega (arith, leads_low c.args.numbering.now)) c.loop-i-test.true)

-- the multiplier of a place divides
divides : (c : After-dim_at-d) → 0 < get_or c.args.numbering.now.down c.loop-i.i 0
divides c = multiplier_pos c.args.numbering.now _ c.loop-i-test.true

-- the offset of a quotient below its bound fits
fits : (c : After-quotient-q) → c.quotient-q.result < get_or c.args.numbering.now.bound c.dim_at-d.result 0
    → c.quotient-q.result * get_or c.args.numbering.now.grid.now.chunk c.dim_at-d.result 0 ≤ largest64
fits c = offset_small c.args.numbering.now _ _ (dim (goal.at.After-quotient-q c).After-dim_at-d)

-- what all returns behind the loop have
ended : (c : After-loop-i) (g : Grid) → NumbersOf c.args.numbering.now g → ExtentsOf c.args.numbering.now g
    → (answered c.loop-i.over c.loop-i.inside ≡ offsets_of (in_extent g c.args.slot)) × (c.loop-i.offsets ≡ handed g c.args.slot c.args.offsets.now)
ended c g n x =
    turned g _ _ _ _ n _ _ x _ c.if-not-numbering.false _ _ _ _ _ _ c.loop-i.invariant.1 c.loop-i-test.false

pub returns-then-not-numbering : goal.returns-then-not-numbering
returns-then-not-numbering c = λ g n x. unnumbered g _ _ _ _ n _ _ x _ c.if-not-numbering.true _

pub loop-i-init : goal.loop-i-init
loop-i-init c = (rank_small c.args.numbering.now, turn_first _ _ _ _ _ _ _)

pub quotient-q-requires : goal.quotient-q-requires
quotient-q-requires c = divides (goal.at.quotient-q-requires c).After-dim_at-d

pub offset_below-requires : goal.offset_below-requires
offset_below-requires c = fits (goal.at.offset_below-requires c).After-quotient-q

pub offset_overflows-over-requires : goal.offset_overflows-over-requires
offset_overflows-over-requires c =
    (length_pos c.args.numbering.now _ (dim (goal.at.offset_overflows-over-requires c).After-dim_at-d), fits (goal.at.offset_overflows-over-requires c).After-quotient-q)

pub loop-i-preserved : goal.loop-i-preserved
loop-i-preserved c =
    let l = c.loop-i in
    let m = c.args.numbering.now in
    rw (c.offset_overflows-over.ensures, c.offset_below.ensures, c.remainder-rest.ensures, c.quotient-q.ensures, c.dim_at-d.ensures)
    (l.invariant.0, turn_more _ _ _ _ _ _ (leads_low m) (arrays_room m) _ _ _ _ _ _ l.invariant.1 c.loop-i-test.true)

pub returns-then-over : goal.returns-then-over
returns-then-over c = λ g n x. rw c.if-over.true at (ended (goal.at.returns-then-over c).After-loop-i g n x)

pub returns : goal.returns
returns c = λ g n x. rw c.if-over.false at (ended (goal.at.returns c).After-loop-i g n x)

pub offset_bounds-numbering-d : goal.offset_bounds-numbering-d
offset_bounds-numbering-d c = omega (arith, dim (goal.at.offset_bounds-numbering-d c).After-dim_at-d)

pub bounds-numbering-d : goal.bounds-numbering-d
bounds-numbering-d c = omega (arith, dim (goal.at.bounds-numbering-d c).After-dim_at-d)

pub offset_bounds-numbering-d-in-loop-i : goal.offset_bounds-numbering-d-in-loop-i
offset_bounds-numbering-d-in-loop-i c = omega (arith, dim (goal.at.offset_bounds-numbering-d-in-loop-i c).After-dim_at-d)

pub bounds-numbering-d-in-loop-i : goal.bounds-numbering-d-in-loop-i
bounds-numbering-d-in-loop-i c = omega (arith, dim (goal.at.bounds-numbering-d-in-loop-i c).After-dim_at-d)

pub remainder-rest-requires : goal.remainder-rest-requires
remainder-rest-requires c = divides (goal.at.remainder-rest-requires c).After-dim_at-d

pub offset_bounds-offsets-d : goal.offset_bounds-offsets-d
offset_bounds-offsets-d c = omega (arith, dim (goal.at.offset_bounds-offsets-d c).After-dim_at-d)

pub bounds-offsets-d : goal.bounds-offsets-d
bounds-offsets-d c = omega (arith, dim (goal.at.bounds-offsets-d c).After-dim_at-d)
