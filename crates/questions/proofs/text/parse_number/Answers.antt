-- `questions::text::parse_number` meets its contract: what the digits left come to behind those read is the word's
-- number. Assumes nothing.
use mathlib.Core.Path.{sym, ◌∙◌}
use native.Mathlib.Omega.{arith}
use borrow.Author.Tests.{eqb-true, eqb-false, le-leb, lt-leb}
use Rattle.questions.specs.Text.{is_digit}
use Rattle.questions.proofs.Numbers.{number_empty, number_start, number_end, number_on, number_other, number_over}
use Rattle.questions.proofs.text.parse_number.Goals as goal

pub returns-then-is_empty : goal.returns-then-is_empty
returns-then-is_empty c = number_empty _ _ (eqb-true _ _ (sym c.if-is_empty.ensures))

pub loop-b-init : goal.loop-b-init
loop-b-init c = number_start _ _ (let n = eqb-false _ _ (sym c.if-is_empty.ensures) in omega arith)

pub returns-then-not-is_ascii_digit : goal.returns-then-not-is_ascii_digit
unfolding is_digit
returns-then-not-is_ascii_digit c =
    number_other _ _ _ _ c.loop-b-test.true (sym c.if-not-is_ascii_digit.ensures.value) ∙ c.loop-b.invariant

pub returns-in_err-checked_mul : goal.returns-in_err-checked_mul
returns-in_err-checked_mul c =
    let l = c.loop-b in
    let o = c.in_err-checked_mul.ensures in
    c.from_residual.ensures ∙ number_over _ _ _ _ c.loop-b-test.true (omega arith) ∙ l.invariant

pub returns-in_err-value : goal.returns-in_err-value
returns-in_err-value c =
    let l = c.loop-b in
    let f = c.in_ok-checked_mul.ensures in
    let o = c.in_err-value.ensures in
    c.from_residual-in_err-value.ensures ∙ number_over _ _ _ _ c.loop-b-test.true (omega arith) ∙ l.invariant

pub loop-b-preserved : goal.loop-b-preserved
unfolding is_digit
loop-b-preserved c =
    let l = c.loop-b in
    let a = c.args in
    let digit = sym c.if-not-is_ascii_digit.ensures.value in
    rw (c.in_ok-value.ensures.1, c.in_ok-checked_mul.ensures.1)
    (number_on a.largest a.word.now l.value l.b-index c.loop-b-test.true digit ∙ l.invariant)

pub returns-then-largest-value : goal.returns-then-largest-value
returns-then-largest-value c =
    let end = sym (number_end c.args.largest c.args.word.now _ _ c.loop-b-test.false) in
    rw (lt-leb _ _ c.if-largest-value.true) at (end ∙ c.loop-b.invariant)

pub returns-else-largest-value : goal.returns-else-largest-value
returns-else-largest-value c =
    let end = sym (number_end c.args.largest c.args.word.now _ _ c.loop-b-test.false) in
    rw (le-leb _ _ c.if-largest-value.false) at (end ∙ c.loop-b.invariant)
