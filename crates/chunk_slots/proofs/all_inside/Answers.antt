-- `chunk_slots::all_inside` meets its contract: what is left to ask from place i on gives the answer. Assumes nothing.
use Prim.Native.Nat.{◌<◌}
use mathlib.Core.Path.{◌≡◌, sym, ◌∙◌}
use native.Mathlib.Omega.{arith}
use lib.ListN.{get_or, take}
use Rattle.chunk_grid.proofs.Building.{rounded_up}
use Rattle.chunk_grid.proofs.Places.{dim_lt}
use Rattle.chunk_slots.proofs.AnyGrid.{rank_small, leads_low, arrays_room, multiplier_pos, multiplier_at, place_at, place_end}
use Rattle.chunk_slots.proofs.AllInside.{asking_first, asking_done, asking_stop, asking_more, asked, unasked}
use Rattle.chunk_slots.proofs.all_inside.Goals.{After-dim_at-d}
use Rattle.chunk_slots.proofs.all_inside.Goals as goal

module _ (c : After-dim_at-d) where
  -- a place is one of the grid's
  place : c.loop-i.i < c.args.numbering.now.grid.now.rank
  place = place_at c.args.numbering.now _ c.loop-i-test.true

  -- its dimension too
  dim : c.dim_at-d.result < c.args.numbering.now.grid.now.rank
  dim = rw c.dim_at-d.ensures (dim_lt _ _ _ (omega (arith, leads_low c.args.numbering.now)) place)

  -- its multiplier, which divides
  multiplier : get_or (take c.args.numbering.now.grid.now.rank c.args.numbering.now.down) c.loop-i.i 0 ≡ get_or c.args.numbering.now.down c.loop-i.i 0
  multiplier = multiplier_at c.args.numbering.now _ c.loop-i-test.true

  divides : 0 < get_or c.args.numbering.now.down c.loop-i.i 0
  divides = multiplier_pos c.args.numbering.now _ place

pub returns-then-not-numbering : goal.returns-then-not-numbering
returns-then-not-numbering c = λ g chunk n x. unasked g _ _ chunk _ n _ _ x _ c.if-not-numbering.true

pub shared_ref_as_front-multiplier-items : goal.shared_ref_as_front-multiplier-items
shared_ref_as_front-multiplier-items c = rank_small c.args.numbering.now

pub loop-i-init : goal.loop-i-init
loop-i-init c = (rank_small c.args.numbering.now, asking_first _ _ _ _ _)

pub div_ceil-requires : goal.div_ceil-requires
div_ceil-requires c =
    let d = (goal.at.div_ceil-requires c).After-dim_at-d in
    rw (multiplier d) (divides d)

pub returns-then-numbering-d : goal.returns-then-numbering-d
returns-then-numbering-d c = λ g chunk n x.
    let m = c.args.numbering.now in
    let f = c.if-numbering-d.true in
    let d = (goal.at.returns-then-numbering-d c).After-dim_at-d in
    asking_stop c.loop-i.invariant.1 (arrays_room m).2 (place d) (leads_low m) (arrays_room m).1
    (rw (c.div_ceil.ensures, multiplier d, rounded_up c.loop-i.rests _ (divides d), c.dim_at-d.ensures) at f)
    ∙ asked g _ _ chunk _ n _ _ x _ c.if-not-numbering.false

pub loop-i-preserved : goal.loop-i-preserved
loop-i-preserved c =
    let m = c.args.numbering.now in
    let f = c.if-numbering-d.false in
    let d = (goal.at.loop-i-preserved c).After-dim_at-d in
    rw (multiplier d) (
      c.loop-i.invariant.0,
      asking_more c.loop-i.invariant.1 (arrays_room m).2 (place d) (leads_low m) (arrays_room m).1
          (rw (c.div_ceil.ensures, multiplier d, rounded_up c.loop-i.rests _ (divides d), c.dim_at-d.ensures) at f),
    )

pub returns : goal.returns
returns c = λ g chunk n x.
    let m = c.args.numbering.now in
    sym (asking_done c.loop-i.invariant.1 (arrays_room m).2 (place_end m _ c.loop-i-test.false)) ∙ asked g _ _ chunk _ n _ _ x _ c.if-not-numbering.false

pub offset_bounds-numbering-d : goal.offset_bounds-numbering-d
offset_bounds-numbering-d c = omega (arith, dim (goal.at.offset_bounds-numbering-d c).After-dim_at-d)

pub bounds-numbering-d : goal.bounds-numbering-d
bounds-numbering-d c = omega (arith, c.loop-i.invariant.0, dim (goal.at.bounds-numbering-d c).After-dim_at-d)
