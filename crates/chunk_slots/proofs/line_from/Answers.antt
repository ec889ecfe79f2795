-- `chunk_slots::line_from` meets its contract: the loop turns as `Lining` says. Assumes nothing.
use Prim.Native.Nat.{◌<◌}
use mathlib.Core.Path.{◌≡◌, sym, ◌∙◌}
use mathlib.Core.Logic.{∥∥₁_elim}
use native.Mathlib.Bridge.{le_prop}
use native.Mathlib.Nat.{mod-lt}
use native.Mathlib.Omega.{arith}
use lib.ListN.{get_or}
use Rattle.chunk_slots.proofs.AnyGrid.{rank_small, arrays_room, multiplier_pos, multiplier_at, place_at, place_end}
use Rattle.chunk_slots.proofs.Lines.{lining_first, lining_more, line_dim, line_below, line_at, line_none}
use Rattle.chunk_slots.proofs.line_from.Goals.{After-dim_at-d, Else-multiplier-eq1}
use Rattle.chunk_slots.proofs.line_from.Goals as goal

pub shared_ref_as_front-multiplier-items : goal.shared_ref_as_front-multiplier-items
shared_ref_as_front-multiplier-items c = rank_small c.args.numbering.now

pub loop-i-init : goal.loop-i-init
loop-i-init c = (rank_small c.args.numbering.now, lining_first _ _ _)

module _ (c : After-dim_at-d) where
  -- a place is one of the grid's
  place : c.loop-i.i < c.args.numbering.now.grid.now.rank
  place = place_at c.args.numbering.now _ c.loop-i-test.true

  -- its multiplier here
  one : get_or c.args.numbering.now.down c.loop-i.i 0 ≡ 1
  one = sym (multiplier_at c.args.numbering.now _ c.loop-i-test.true) ∙ c.if-multiplier-eq1.true

  -- the dimension of the place is one of the grid's
  dim : c.dim_at-d.result < c.args.numbering.now.grid.now.rank
  dim =
      rw c.dim_at-d.ensures (∥∥₁_elim c.requires le_prop (λ p. line_dim p.0 _ _ _ _ p.3 _ _ p.4 _ p.5 c.loop-i.invariant.1 place one))

module _ (c : Else-multiplier-eq1) where
  -- a multiplier divides
  divides : 0 < get_or c.args.numbering.now.down c.loop-i.i 0
  divides = multiplier_pos c.args.numbering.now _ (place_at c.args.numbering.now _ c.loop-i-test.true)

pub overflow_sub-left : goal.overflow_sub-left
overflow_sub-left c =
    let d = (goal.at.overflow_sub-left c).After-dim_at-d in
    let p = ∥∥₁_elim c.requires le_prop (λ p. line_below p.0 _ _ _ _ p.3 _ _ p.4 _ p.5 c.loop-i.invariant.1 (place d) (one d)) in
    rw c.dim_at-d.ensures (omega (arith, p))

pub returns-then-multiplier-eq1 : goal.returns-then-multiplier-eq1
returns-then-multiplier-eq1 c = λ g chunk numbers n x h.
    let d = (goal.at.returns-then-multiplier-eq1 c).After-dim_at-d in
    rw (c.min.ensures, c.dim_at-d.ensures)
    (line_at g _ _ chunk _ n numbers _ x _ h c.loop-i.invariant.1 (place d) (one d))

pub remainder-rest-requires : goal.remainder-rest-requires
remainder-rest-requires c = rw (multiplier_at c.args.numbering.now _ c.loop-i-test.true) (divides (goal.at.remainder-rest-requires c).Else-multiplier-eq1)

pub overflow_sub-multiplier : goal.overflow_sub-multiplier
overflow_sub-multiplier c =
    let d = divides (goal.at.overflow_sub-multiplier c).Else-multiplier-eq1 in
    rw (c.remainder-rest.ensures, multiplier_at c.args.numbering.now _ c.loop-i-test.true) (omega (arith, mod-lt c.loop-i.rest d))

pub loop-i-preserved : goal.loop-i-preserved
loop-i-preserved c =
    let m = c.args.numbering.now in
    let e = multiplier_at m _ c.loop-i-test.true in
    rw (c.min-slots.ensures, c.remainder-rest.ensures, e) (
      c.loop-i.invariant.0,
      lining_more _ _ _ (arrays_room m).2 c.loop-i.invariant.1 (place_at m _ c.loop-i-test.true) (divides (goal.at.loop-i-preserved c).Else-multiplier-eq1) (λ q. c.if-multiplier-eq1.false (e ∙ q)),
    )

pub returns : goal.returns
returns c = λ g chunk numbers n x h.
    line_none g _ _ chunk _ n numbers _ x _ h c.loop-i.invariant.1 (place_end c.args.numbering.now _ c.loop-i-test.false)

pub offset_bounds-numbering-d : goal.offset_bounds-numbering-d
offset_bounds-numbering-d c = omega (arith, dim (goal.at.offset_bounds-numbering-d c).After-dim_at-d)

pub bounds-numbering-d : goal.bounds-numbering-d
bounds-numbering-d c = omega (arith, dim (goal.at.bounds-numbering-d c).After-dim_at-d)
