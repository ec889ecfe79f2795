-- `chunk_slots::slot_of` meets its contract: what is left from place i on, from the sum so far, gives the slot.
-- Assumes nothing.
use lib.Dec.{ltb}
use borrow.Author.Tests.{lt-ltb, ltb-true, leb-true, leb-false}
use Rattle.refusal.proofs.Tests.{both, not_both}
use Prim.Native.Nat.{◌/◌, ◌<◌}
use mathlib.Core.Path.{refl, ◌∙◌}
use native.Mathlib.Omega.{arith}
use lib.ListN.{length, get_or}
use Rattle.chunk_grid.specs.Grid.{Grid}
use Rattle.chunk_grid.specs.Numberings.{NumbersOf, CountsOf}
use Rattle.chunk_grid.specs.Values.{GridNumbers, GridCounts}
use Rattle.chunk_grid.proofs.Places.{dim_lt}
use Rattle.chunk_slots.proofs.AnyGrid.{rank_small, leads_low, length_pos}
use Rattle.chunk_slots.proofs.Corners.{past_count, past_places, past_64, one_more, slot_is}
use Rattle.chunk_slots.proofs.slot_of.Goals.{After-dim_at-d, Start}
use Rattle.chunk_slots.proofs.slot_of.Goals as goal

-- what the corner's slot is found by
numbers : (c : Start) {g : Grid} → NumbersOf c.args.numbering.now g
    → GridNumbers (length c.args.corner.now) c.args.numbering.now.rotated c.args.numbering.now.grid.now.chunk c.args.numbering.now.down g
numbers c n = rw c.requires n

counts : (c : Start) (g : Grid) → CountsOf c.args.numbering.now g
    → GridCounts (length c.args.corner.now) c.args.numbering.now.counts g
counts c g k = rw c.requires k

-- the dimension of a place is one of the grid's
dim : (c : After-dim_at-d) → c.dim_at-d.result < length c.args.corner.now
dim c = rw c.dim_at-d.ensures (dim_lt _ _ _ (omega (arith, leads_low c.args.numbering.now, c.requires)) c.loop-i-test.true)

pub loop-i-init : goal.loop-i-init
loop-i-init c = (omega (arith, rank_small c.args.numbering.now, c.requires), omega arith, λ g m o. refl)

pub nonzero_div-q : goal.nonzero_div-q
nonzero_div-q c = length_pos c.args.numbering.now _ (omega (arith, dim (goal.at.nonzero_div-q c).After-dim_at-d, c.requires))

pub returns-then-i-numbering : goal.returns-then-i-numbering
returns-then-i-numbering c = λ g m o.
    let before = goal.at.returns-then-i-numbering c in
    let n = numbers before.Start m in
    let k = counts before.Start g o in
    let l = c.loop-i in
    let t = both (ltb _ l.i) _ c.if-i-numbering.true in
    past_count _ _ _ _ _ _ n k l.i l.slot c.loop-i-test.true (omega (arith, ltb-true _ _ t.0)) (rw (← c.dim_at-d.ensures) (leb-true _ _ t.1)) ∙ l.invariant.2 g m o ∙ slot_is _ _ _ _ _ _ n k

pub returns-in_err-checked_mul : goal.returns-in_err-checked_mul
returns-in_err-checked_mul c = λ g m o.
    let before = goal.at.returns-in_err-checked_mul c in
    let n = numbers before.Start m in
    let k = counts before.Start g o in
    let l = c.loop-i in
    let p = c.in_err-checked_mul.ensures in
    c.from_residual.ensures ∙ past_64 _ _ _ _ _ _ n k l.i l.slot c.loop-i-test.true (rw (← c.dim_at-d.ensures) (omega arith)) ∙ l.invariant.2 g m o ∙ slot_is _ _ _ _ _ _ n k

pub returns-in_err-slot : goal.returns-in_err-slot
returns-in_err-slot c = λ g m o.
    let before = goal.at.returns-in_err-slot c in
    let n = numbers before.Start m in
    let k = counts before.Start g o in
    let l = c.loop-i in
    let f = c.in_ok-checked_mul.ensures in
    let p = c.in_err-slot.ensures in
    c.from_residual-in_err-slot.ensures ∙ past_64 _ _ _ _ _ _ n k l.i l.slot c.loop-i-test.true (rw (← c.dim_at-d.ensures, ← f.1) (omega arith)) ∙ l.invariant.2 g m o ∙ slot_is _ _ _ _ _ _ n k

pub loop-i-preserved : goal.loop-i-preserved
loop-i-preserved c =
    let l = c.loop-i in
    let a = c.args in
    let before = goal.at.loop-i-preserved c in
    let f = c.in_ok-checked_mul.ensures in
    let s = c.in_ok-slot.ensures in
    let lt : 0 < l.i → get_or a.corner.now c.dim_at-d.result 0 / get_or a.numbering.now.grid.now.chunk c.dim_at-d.result 0 < get_or a.numbering.now.counts c.dim_at-d.result 0 =
    λ pos. leb-false _ _ (not_both (ltb 0 l.i) _ c.if-i-numbering.false (lt-ltb 0 l.i pos)) in
    (l.invariant.0, omega (arith, s), λ g m o. rw (s.1, f.1, c.dim_at-d.ensures) (one_more _ _ _ _ _ _ (numbers before.Start m) (counts before.Start g o) l.i l.slot c.loop-i-test.true (rw c.dim_at-d.ensures at lt) ∙ l.invariant.2 g m o))

pub returns : goal.returns
returns c = λ g m o.
    let before = goal.at.returns c in
    let n = numbers before.Start m in
    let k = counts before.Start g o in
    let l = c.loop-i in
    past_places _ _ _ _ _ _ n k l.i l.slot c.loop-i-test.false l.invariant.1 ∙ l.invariant.2 g m o ∙ slot_is _ _ _ _ _ _ n k

pub offset_bounds-corner-d : goal.offset_bounds-corner-d
offset_bounds-corner-d c = omega (arith, dim (goal.at.offset_bounds-corner-d c).After-dim_at-d)

pub bounds-corner-d : goal.bounds-corner-d
bounds-corner-d c = dim (goal.at.bounds-corner-d c).After-dim_at-d

pub offset_bounds-numbering-d : goal.offset_bounds-numbering-d
offset_bounds-numbering-d c = omega (arith, dim (goal.at.offset_bounds-numbering-d c).After-dim_at-d)

pub bounds-numbering-d : goal.bounds-numbering-d
bounds-numbering-d c = omega (arith, dim (goal.at.bounds-numbering-d c).After-dim_at-d)

pub offset_bounds-numbering-d-in-loop-i : goal.offset_bounds-numbering-d-in-loop-i
offset_bounds-numbering-d-in-loop-i c = omega (arith, dim (goal.at.offset_bounds-numbering-d-in-loop-i c).After-dim_at-d)

pub bounds-numbering-d-in-loop-i : goal.bounds-numbering-d-in-loop-i
bounds-numbering-d-in-loop-i c = omega (arith, dim (goal.at.bounds-numbering-d-in-loop-i c).After-dim_at-d)
