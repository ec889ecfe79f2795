-- `list_text::Text::put_offsets` meets its contract: the numbers left go behind those that are put. Assumes nothing.
use Rattle.std.proofs.Common.{◌≡◌, ◌+◌, ◌-◌, ◌*◌, ◌∙◌, take, drop, arith}
use Rattle.list_text.proofs.Puts.{put_none, put_more, put_all}
use Rattle.list_text.proofs.Lines.{offsets_first, offsets_on, offsets_end}
use Rattle.list_text.proofs.Text.put_offsets.Goals as goal

pub loop-number-init : goal.loop-number-init
loop-number-init c =
    let a = c.args in
    let s = c.into_iter-number-iterator.result in
    let e : s.rest.now ≡ take (a.from + 8 * a.n - a.from) (drop a.from a.list.now) = cc in
    let f = offsets_first a.list.now a.from a.n c.requires.0 s.rest.now e in
    (cc, rw f.0 (omega arith), rw (f.0, f.1) (put_none _ _))

pub put_spaced-requires : goal.put_spaced-requires
put_spaced-requires c =
    let l = c.loop-number in
    let part = c.in-Some.ensures.steps.1 in
    let on = offsets_on _ _ _ (drop (c.args.from + 8 * c.args.n) c.args.list.now) part.0 (part.1 ∙ l.invariant.0) in
    omega (arith, on.0, l.invariant.1, c.requires.1)

pub loop-number-preserved : goal.loop-number-preserved
loop-number-preserved c =
    let l = c.loop-number in
    let step = c.in-Some.ensures.steps in
    let on = offsets_on _ _ _ (drop (c.args.from + 8 * c.args.n) c.args.list.now) step.1.0 (step.1.1 ∙ l.invariant.0) in
    let told = rw c.read_u64_le.ensures at c.put_spaced.ensures in
    (step.0 ∙ l.invariant.0, omega (arith, on.0, l.invariant.1, told.room), put_more (rw on.1 at l.invariant.2) told.appended)

pub returns-clause-appended : goal.returns-clause-appended
returns-clause-appended c =
    let l = c.loop-number in
    let end = offsets_end l.number-iterator.rest.now (drop (c.args.from + 8 * c.args.n) c.args.list.now) (grind (arith, c.in-None.ensures.steps, l.invariant.0)) in
    put_all (rw end.1 at l.invariant.2)
