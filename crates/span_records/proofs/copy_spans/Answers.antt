-- `span_records::copy_spans` meets its contract: the first i records hold the first i spans. Assumes nothing.
use mathlib.Core.Path.{◌≡◌, sym, ap, ◌∙◌}
use native.Mathlib.Numerals.{add-one}
use native.Mathlib.Omega.{arith}
use lib.ListN.{drop, set, length-set}
use lib.Seq.{length-take-le}
use Rattle.std.proofs.lemmas.List.{set-append_left, take-append-drop}
use Rattle.span_records.specs.Stored.{span_at, stored}
use Rattle.span_records.proofs.copy_spans.Goals as goal

pub loop-i-init : goal.loop-i-init
loop-i-init c =
    let s = c.args in
    (length-take-le s.n s.spans.now (omega (arith, c.requires)), take-append-drop s.n s.spans.now)

pub loop-i-preserved : goal.loop-i-preserved
loop-i-preserved c =
    let l = c.loop-i in
    let s = c.args in
    let x = span_at s.addresses.now s.lengths.now l.i in
    (length-set l.span-items l.i x ∙ l.invariant.0, rw add-one (sym (set-append_left l.span-items (drop s.n s.spans.now) l.i x (omega (arith, l.auto.span-items, c.loop-i-test.true))) ∙ ap (λ y. set y l.i x) l.invariant.1))

pub returns : goal.returns
returns c =
    let l = c.loop-i in
    let s = c.args in
    let e : l.i ≡ s.n = omega (arith, l.invariant.0, l.auto.span-items, l.auto.i-end, c.loop-i-test.false) in
    l.invariant.1 ∙ ap (λ k. stored k s.addresses.now s.lengths.now s.spans.now) e
