-- `element_runs::count::count_elements` meets its contract. Assumes nothing.
use Prim.Native.Nat.{◌+◌, ◌*◌, ◌≤◌}
use mathlib.Core.Path.{sym, ap, ◌∙◌}
use native.Mathlib.Nat.{pos_of_ne-zero}
use native.Mathlib.Omega.{arith}
use lib.ListN.{length}
use Rattle.std.proofs.Common.{rules, []}
use Rattle.std.specs.Prelude.{Ok}
use Rattle.elements.specs.Values.{elements_of}
use Rattle.refusal.specs.Values.{counted_of}
use Rattle.element_form.specs.Form.{stride}
use Rattle.element_form.proofs.Forms.{sized_width, sized-stride}
use Rattle.elements.proofs.Turns.{fewer_lie, left_run, left_none, left_refused}
use Rattle.element_runs.proofs.AllChunks.{all_counted}
use Rattle.element_runs.proofs.count.count_elements.Goals.{In_ok-sized}
use Rattle.element_runs.proofs.count.count_elements.Goals as goal

pub returns-then-left-eq0 : goal.returns-then-left-eq0
unfolding counted_of
returns-then-left-eq0 c = λ grid m x. sym (ap counted_of (left_none _ _ _ _ _ _ c.below_count-left.ensures c.if-left-eq0.true))

pub returns-in_err-sized : goal.returns-in_err-sized
unfolding counted_of
returns-in_err-sized c = λ grid m x.
    let n = c.if-left-eq0.false in
    let a = c.args in
    let e = elements_of a.file.now a.reader.now grid m in
    let h = ap counted_of (left_refused e a.pos a.n a.slot _ (Ok []) c.below_count-left.ensures (pos_of_ne-zero n) _ c.in_err-sized.ensures) in
    search rules

-- the reader is the one that passed
left_below : (c : In_ok-sized) → c.args.slot + c.below_count-left.result ≤ c.in_ok-sized.sized.reader.count
left_below c = let n = c.if-left-eq0.false in rw c.in_ok-sized.ensures (omega (arith, c.below_count-left.ensures))

left_inside : (c : In_ok-sized)
    → c.args.pos + c.below_count-left.result * stride c.in_ok-sized.sized.reader.form ≤ length c.args.file.now
left_inside c = rw c.in_ok-sized.ensures (fewer_lie _ _ _ _ _ (omega (arith, c.below_count-left.ensures)) c.requires)

pub count_defined-requires : goal.count_defined-requires
count_defined-requires c =
    let t = c.in_ok-sized.sized.sized in
    rw c.stride.ensures (sized_width _ t, sized-stride _ t, left_inside (goal.at.count_defined-requires c).In_ok-sized)

pub count_steps-requires : goal.count_steps-requires
count_steps-requires c =
    let at = (goal.at.count_steps-requires c).In_ok-sized in
    (left_inside at, left_below at, omega (arith, left_below at))

pub returns-then-all_chunks : goal.returns-then-all_chunks
returns-then-all_chunks c = λ grid m x.
    let sized = c.in_ok-sized.sized in
    let y = rw (← c.in_ok-sized.ensures) at x in
    let e = ap Ok (rw c.stride.ensures at c.count_defined.ensures)
    ∙ all_counted (elements_of c.args.file.now sized.reader grid m) (λ i. omega (arith, c.type_inv.file i)) sized.sized y.numbered y.extended _ (sym (c.all_chunks.ensures grid m y) ∙ c.if-all_chunks.true) c.args.pos c.below_count-left.result c.args.slot (omega arith) (left_below (goal.at.returns-then-all_chunks c).In_ok-sized) in
    (rw c.in_ok-sized.ensures at e) ∙ sym (ap counted_of (left_run _ _ _ _ _ _ c.below_count-left.ensures))

pub returns : goal.returns
returns c = λ grid m x.
    let e = c.count_steps.ensures grid m in
    (rw c.in_ok-sized.ensures at e) x ∙ sym (ap counted_of (left_run _ _ _ _ _ _ c.below_count-left.ensures))
