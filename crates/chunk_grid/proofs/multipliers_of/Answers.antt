-- `chunk_grid::multipliers_of` meets its contract: the loop has what `Behind` says. Assumes nothing.
use mathlib.Core.Path.{◌≡◌, ap, ◌∙◌}
use native.Mathlib.Omega.{arith}
use Prim.Native.Nat.{ℕ, ◌-◌, ◌*◌, ◌<◌, max}
use lib.ListN.{length, get_or, length-set}
use Rattle.chunk_grid.specs.Grid.{to_front}
use Rattle.chunk_grid.proofs.Order.{length_front}
use Rattle.chunk_grid.proofs.Places.{read_at}
use Rattle.chunk_grid.proofs.Building.{made_none, made_fits, made_more, made_all, made_empty}
use Rattle.chunk_grid.proofs.multipliers_of.Goals.{After-max, After-dim_at}
use Rattle.chunk_grid.proofs.multipliers_of.Goals as goal

-- the count that is read is the one of place i - 1 in the grid's order
counted : (c : After-dim_at)
    → let s = c.args in
    (c.dim_at.result < length s.counts.now) × (get_or s.counts.now c.dim_at.result 0 ≡ get_or (to_front s.rotated s.counts.now) (c.loop-i.i - 1) 0)
counted c = read_at _ _ _ _ (omega arith) (omega arith) c.dim_at.ensures

-- and the next multiplier
next : (c : After-max)
    → let l = c.loop-i in
    let s = c.args in
    get_or l.down (l.i - 1) 0 * c.max.result ≡ get_or l.down (l.i - 1) 0 * max (get_or (to_front s.rotated s.counts.now) (l.i - 1) 0) 1
next c =
    let l = c.loop-i in
    ap (λ (n : ℕ). get_or l.down (l.i - 1) 0 * n) (c.max.ensures ∙ ap (λ (n : ℕ). max n 1) (counted (goal.at.After-max c).After-dim_at).1)

pub returns-then-rank-eq0 : goal.returns-then-rank-eq0
returns-then-rank-eq0 c = made_empty c.args.rotated c.args.counts.now c.args.down.now c.if-rank-eq0.true c.requires.0

pub loop-i-init : goal.loop-i-init
loop-i-init c =
    let e = length_front c.args.rotated c.args.counts.now c.requires.1 in
    (simp length-set c.requires.0, rw (← e) (made_none (to_front c.args.rotated c.args.counts.now) c.args.down.now (omega arith) (omega arith)))

pub overflow_mul-down : goal.overflow_mul-down
overflow_mul-down c =
    let l = c.loop-i in
    let m = made_fits _ _ _ _ l.invariant.1 c.loop-i-test.true c.requires.2 in
    omega (arith, next (goal.at.overflow_mul-down c).After-max, m)

pub loop-i-preserved : goal.loop-i-preserved
loop-i-preserved c =
    let l = c.loop-i in
    (simp length-set l.invariant.0, rw (next (goal.at.loop-i-preserved c).After-max, (counted (goal.at.loop-i-preserved c).After-dim_at).1) (made_more _ _ _ _ l.invariant.1 c.loop-i-test.true))

pub returns : goal.returns
returns c = made_all _ _ _ _ c.loop-i.invariant.1 c.loop-i-test.false

pub offset_bounds-counts-dim_at : goal.offset_bounds-counts-dim_at
offset_bounds-counts-dim_at c = omega (arith, (counted (goal.at.offset_bounds-counts-dim_at c).After-dim_at).0)

pub bounds-counts-dim_at : goal.bounds-counts-dim_at
bounds-counts-dim_at c = (counted (goal.at.bounds-counts-dim_at c).After-dim_at).0
