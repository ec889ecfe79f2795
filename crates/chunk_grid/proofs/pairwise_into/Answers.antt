-- `chunk_grid::pairwise_into` meets its contract. Assumes nothing.
use mathlib.Core.Path.{refl, ◌∙◌}
use native.Mathlib.Omega.{arith}
use lib.ListN.{length-set}
use Rattle.chunk_grid.proofs.Building.{paired_more, paired_all, none_zero}
use Rattle.chunk_grid.proofs.pairwise_into.Goals as goal

pub loop-i-init : goal.loop-i-init
loop-i-init g c = (c.requires.0, λ h k. refl)

pub f-requires : goal.f-requires
f-requires g c = c.requires.3 _ _ (none_zero _ _ c.requires.2 (omega (arith, c.requires.0, c.loop-i-test.true)))

pub loop-i-preserved : goal.loop-i-preserved
loop-i-preserved g c =
    let l = c.loop-i in
    let p = c.requires in
    let t = c.loop-i-test.true in
    (length-set l.out l.i _ ∙ l.invariant.0, λ h k. paired_more h _ _ _ _ p.1 l.invariant.0 (l.invariant.1 h k) (omega (arith, p.0, t)) _ (k _ _ _ (none_zero _ _ p.2 (omega (arith, p.0, t))) c.f.ensures))

pub returns : goal.returns
returns g c = λ h k.
    let l = c.loop-i in
    let p = c.requires in
    paired_all h _ _ _ _ p.1 l.invariant.0 (l.invariant.1 h k) (omega (arith, p.0, c.loop-i-test.false))
