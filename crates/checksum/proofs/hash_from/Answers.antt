-- `checksum::hash_from` meets its contract: the blocks that are left, from the words so far, give the hash. Assumes
-- nothing.
use Rattle.std.proofs.Common.{refl, ap, ◌∙◌, arith}
use Rattle.checksum.specs.Lookup3.{mixed, final_mixed}
use Rattle.checksum.proofs.Lookup3.{turned_at, ended_at}
use Rattle.checksum.proofs.hash_from.Goals as goal

pub loop-at-init : goal.loop-at-init
loop-at-init c = (omega arith, refl)

pub loop-at-preserved : goal.loop-at-preserved
loop-at-preserved c =
    let s = c.args.s.now in
    let l = c.loop-at in
    (omega arith, turned_at s l.at l.w _ c.loop-at-test.true (c.mix-w.ensures ∙ ap mixed c.add_block.ensures) ∙ l.invariant.1)

pub returns : goal.returns
returns c =
    let s = c.args.s.now in
    let l = c.loop-at in
    ended_at s l.at l.w _ c.loop-at-test.false (c.final_mix-u.ensures ∙ ap final_mixed c.add_tail.ensures) ∙ l.invariant.1
