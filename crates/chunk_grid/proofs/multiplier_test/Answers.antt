-- `chunk_grid::multiplier_test` meets its contract: the loop has what `Tested` says. Assumes nothing.
use mathlib.Core.Path.{◌≡◌, sym, ap, ◌∙◌}
use native.Mathlib.Omega.{arith}
use Rattle.std.specs.Prelude.{Err}
use Rattle.std.proofs.Common.{rules}
use Prim.Native.Nat.{ℕ, ◌-◌, ◌<◌, max}
use lib.ListN.{length, get_or}
use Rattle.chunk_grid.specs.Grid.{to_front}
use Rattle.chunk_grid.proofs.Order.{length_front}
use Rattle.chunk_grid.proofs.Places.{read_at}
use Rattle.chunk_grid.proofs.Building.{tested_none, tested-unlimited, tested_over, tested_more, tested_all, taken, too_many}
use Rattle.chunk_grid.proofs.multiplier_test.Goals.{After-max, After-dim_at}
use Rattle.chunk_grid.proofs.multiplier_test.Goals as goal

-- the count that is read is the one of place i - 1 in the grid's order
counted : (c : After-dim_at)
    → let s = c.args in
    (c.dim_at.result < length s.counts.now) × (get_or s.counts.now c.dim_at.result 0 ≡ get_or (to_front s.rotated s.counts.now) (c.loop-i.i - 1) 0)
counted c = read_at _ _ _ _ (omega arith) (omega arith) c.dim_at.ensures

pub loop-i-init : goal.loop-i-init
loop-i-init c = rw (← length_front c.args.rotated c.args.counts.now c.requires) (tested_none (to_front c.args.rotated c.args.counts.now))

pub returns-then-count : goal.returns-then-count
returns-then-count c =
    sym (tested-unlimited _ _ _ c.loop-i.invariant c.loop-i-test.true (sym (counted (goal.at.returns-then-count c).After-dim_at).1 ∙ c.if-count.true))

-- and is taken as 1 where it is 0
limited : (c : After-max) → c.max.result ≡ max (get_or (to_front c.args.rotated c.args.counts.now) (c.loop-i.i - 1) 0) 1
limited c = c.max.ensures ∙ ap (λ (n : ℕ). max n 1) (counted (goal.at.After-max c).After-dim_at).1

pub returns-in_err-multiplier : goal.returns-in_err-multiplier
returns-in_err-multiplier c =
    let r : c.from_residual.result ≡ Err c.in_err-multiplier.field-0.0 = search rules in
    let t = too_many _ _ _ c.checked_mul.ensures (sym c.ok_or.ensures.value ∙ c.in_err-multiplier.was) in
    let e = limited (goal.at.returns-in_err-multiplier c).After-max in
    r ∙ ap Err t.1 ∙ sym (tested_over _ _ _ c.loop-i.invariant c.loop-i-test.true (λ p. c.if-count.false ((counted (goal.at.returns-in_err-multiplier c).After-dim_at).1 ∙ p)) (rw (← e) t.0))

pub loop-i-preserved : goal.loop-i-preserved
loop-i-preserved c =
    let t = taken _ _ _ c.checked_mul.ensures (sym c.ok_or.ensures.value ∙ c.in_ok-multiplier.was) in
    let f = rw (limited (goal.at.loop-i-preserved c).After-max) at t in
    rw f.1 (tested_more _ _ _ c.loop-i.invariant c.loop-i-test.true (λ p. c.if-count.false ((counted (goal.at.loop-i-preserved c).After-dim_at).1 ∙ p)) f.0)

pub returns : goal.returns
returns c = sym (tested_all _ _ _ c.loop-i.invariant c.loop-i-test.false)

pub offset_bounds-counts-dim_at : goal.offset_bounds-counts-dim_at
offset_bounds-counts-dim_at c = omega (arith, (counted (goal.at.offset_bounds-counts-dim_at c).After-dim_at).0)

pub bounds-counts-dim_at : goal.bounds-counts-dim_at
bounds-counts-dim_at c = (counted (goal.at.bounds-counts-dim_at c).After-dim_at).0
