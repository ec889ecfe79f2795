-- `checksum::hashlittle_two` meets its contract: for each slice the blocks that are left and the rest, from its words
-- so far, give its hash. Assumes nothing.
use Rattle.std.proofs.Common.{◌≡◌, ◌<◌, ◌+◌, ◌++◌, length, length-append, ap, ◌∙◌, arith}
use Rattle.checksum.specs.Lookup3.{mixed}
use Rattle.checksum.proofs.Lookup3.{passed, rested, opened, of_parts}
use Rattle.checksum.proofs.hashlittle_two.Goals as goal

pub returns-then-both-eq0 : goal.returns-then-both-eq0
returns-then-both-eq0 c = (c.hashlittle.ensures, c.hashlittle-then-both-eq0.ensures)

pub loop-one-init : goal.loop-one-init
loop-one-init c =
    let s = c.args.s.now in
    let t = c.args.t.now in
    let i = c.args.initval in
    let a = c.into_iter-one-iterator.result.a in
    let b = c.into_iter-one-iterator.result.b in
    let e : a.rest.now ≡ c.split_at.result.0.now = cc in
    let f : b.rest.now ≡ c.split_at-2.result.0.now = cc in
    let g : length a.rest.now ≡ length c.split_at.result.0.now = ap length e in
    let h : length b.rest.now ≡ length c.split_at-2.result.0.now = ap length f in (
      cc,
      cc,
      omega arith,
      omega arith,
      omega arith,
      omega arith,
      of_parts s a.rest.now _ _ c.start-v.result (e ∙ c.split_at.ensures.front) c.split_at.ensures.back ∙ opened s i (omega arith) _ c.start-v.ensures,
      of_parts t b.rest.now _ _ c.start-w.result (f ∙ c.split_at-2.ensures.front) c.split_at-2.ensures.back ∙ opened t i (omega arith) _ c.start-w.ensures,
    )

pub loop-one-preserved : goal.loop-one-preserved
loop-one-preserved c =
    let l = c.loop-one in
    let a = l.one-iterator.a.rest.now in
    let b = l.one-iterator.b.rest.now in
    let x = c.in-Some.one.now in
    let y = c.in-Some.other.now in
    let now = c.next.new.self in
    let first = c.in-Some.ensures.steps.0 in
    let second = c.in-Some.ensures.steps.1 in
    let e : a ≡ x ++ now.a.rest.now = first.1.0 in
    let f : b ≡ y ++ now.b.rest.now = second.1.0 in
    let g : length x ≡ 12 = first.1.1 ∙ l.invariant.0 in
    let h : length y ≡ 12 = second.1.1 ∙ l.invariant.1 in
    let m : length a ≡ length x + length now.a.rest.now = ap length e ∙ length-append x now.a.rest.now in
    let n : length b ≡ length y + length now.b.rest.now = ap length f ∙ length-append y now.b.rest.now in (
      first.0 ∙ l.invariant.0,
      second.0 ∙ l.invariant.1,
      omega arith,
      omega arith,
      omega arith,
      omega arith,
      passed a x now.a.rest.now _ l.v c.mix-v.result e g l.invariant.4 (c.mix-v.ensures ∙ ap mixed c.add_block.ensures) ∙ l.invariant.6,
      passed b y now.b.rest.now _ l.w c.mix-w.result f h l.invariant.5 (c.mix-w.ensures ∙ ap mixed c.add_block-in-loop-one.ensures) ∙ l.invariant.7,
    )

pub returns : goal.returns
returns c =
    let s = c.args.s.now in
    let t = c.args.t.now in
    let l = c.loop-one in
    let a = l.one-iterator.a.rest.now in
    let b = l.one-iterator.b.rest.now in
    let h : length a < 12 = grind (arith, c.in-None.ensures.steps, l.invariant) in (
      c.hash_from.ensures ∙ rested s a _ l.v _ l.invariant.6 l.invariant.3 h,
      c.hash_from-2.ensures ∙ rested t b _ l.w _ l.invariant.7 (omega arith) (omega arith),
    )
