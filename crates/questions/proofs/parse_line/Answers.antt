-- `questions::parse_line` meets its contract: the words that are left come to what the line comes to. Assumes nothing.
use mathlib.Core.Path.{◌≡◌, refl, sym, ◌∙◌}
use mathlib.Core.Bool.{cond}
use mathlib.Core.List.{[]}
use Prim.Native.Nat.{◌+◌, ◌*◌, ◌<◌}
use native.Mathlib.Omega.{arith}
use lib.Dec.{eqb}
use lib.ListN.{length, get_or}
use borrow.Author.Tests.{eq-eqb, ne_eqb}
use Rattle.std.proofs.Common.{rules, tests}
use Rattle.std.proofs.lemmas.Iterator.Splits.{YieldsList-from_slice_split}
use Rattle.std.proofs.lemmas.Iterator.Consumers.{YieldsList-from_enumerate, YieldsList-turn, YieldsList-end}
use Rattle.std.proofs.lemmas.List.{length_push}
use Rattle.std.proofs.lemmas.List.FromFn.{length-enumerate_from}
use Rattle.std.specs.Prelude.{None, Some}
use Rattle.questions.specs.Text.{words}
use Rattle.questions.specs.Line.{line_question, line_stored}
use Rattle.questions.proofs.Words.{words_split, word_at, words_few}
use Rattle.questions.proofs.Questions.{question_default, parsing_first, parsing_on, parsing_refused, parsing_end}
use Rattle.questions.proofs.parse_line.Goals.{In-Some, In-None}
use Rattle.questions.proofs.parse_line.Goals.{else-rank-le4096-via-then-rank-le4096+else-count-rank, else-rank-le4096-via-else-rank-le4096}
use Rattle.questions.proofs.parse_line.Goals as goal

pub loop-i-init : goal.loop-i-init
loop-i-init c = rw (question_default c.default-question.result c.default-question.ensures) (refl, parsing_first _ _)

-- the word at hand, with its number
here : (c : In-Some) → (c.in-Some.i ≡ c.loop-i.count) × (c.loop-i.count < length (words c.args.line.now))
    × (c.in-Some.word.now ≡ get_or (words c.args.line.now) c.loop-i.count [])
here c =
    let chain = YieldsList-from_enumerate (YieldsList-from_slice_split _ (λ b. eqb b 32) c.args.line.now (cc) (cc) (cc) (λ x b q k. search (rules, tests))) (cc) in
    let turn = YieldsList-turn chain c.loop-i.yielded _ c.loop-i.yielded_by _ _ (c.in-Some.i, c.in-Some.word) c.in-Some.is c.next.ensures.steps in
    rw c.loop-i.invariant.0 (word_at _ _ _ _ turn)

pub returns-in_err-n : goal.returns-in_err-n
returns-in_err-n c =
    let h = here (goal.at.returns-in_err-n c).In-Some in
    let none = sym c.in_err-n.was ∙ c.parse_word.ensures in
    let told = parsing_refused c.loop-i.invariant.1 h.1 c.in-Some.word.now h.2 (rw h.0 at none) in
    record { value = c.from_residual.ensures ∙ told.0; numbers_after = told.1 }

pub loop-i-preserved : goal.loop-i-preserved
loop-i-preserved c =
    let l = c.loop-i in
    let h = here (goal.at.loop-i-preserved c).In-Some in
    let number = sym c.in_ok-n.was ∙ c.parse_word.ensures in
    let next = length_push l.yielded (c.in-Some.i, c.in-Some.word) in
    rw (next, c.with-question.ensures, c.put_le.ensures, h.0)
    (omega (arith, l.invariant.0), parsing_on l.invariant.1 h.1 c.in-Some.word.now h.2 c.in_ok-n.n (rw h.0 at number))

-- no word is left: how many there were, ..
last : (c : In-None) → c.loop-i.count ≡ length (words c.args.line.now)
last c =
    let chain = YieldsList-from_enumerate (YieldsList-from_slice_split _ (λ b. eqb b 32) c.args.line.now (cc) (cc) (cc) (λ x b q k. search (rules, tests))) (cc) in
    let all = YieldsList-end chain c.loop-i.yielded _ c.loop-i.yielded_by _ _ c.in-None.is c.next.ensures.steps in
    c.loop-i.invariant.0 ∙ rw (words_split c.args.line.now, length-enumerate_from 0 (words c.args.line.now)) at all.1

-- .. and what they come to
end : (c : In-None)
    → let l = c.loop-i in
    (cond (eqb l.count (6 + 3 * l.question.rank)) (Some l.question) None ≡ line_question (words c.args.line.now)) × (l.numbers ≡ line_stored (words c.args.line.now) c.args.numbers.now)
end c = parsing_end c.loop-i.invariant.1 (omega (arith, last c))

-- the words are too many or too few
unread : (c : In-None)
    → let l = c.loop-i in
    let a = c.args in
    (l.count ≡ 6 + 3 * l.question.rank → ⊥) → (None ≡ line_question (words a.line.now)) × (l.numbers ≡ line_stored (words a.line.now) a.numbers.now)
unread c n =
    let l = c.loop-i in
    (rw (ne_eqb l.count (6 + 3 * l.question.rank) n) at (end c).0, (end c).1)

pub returns-then-count-rank : goal.returns-then-count-rank
returns-then-count-rank c =
    let l = c.loop-i in
    let told = end (goal.at.returns-then-count-rank c).In-None in
    record { value = rw (eq-eqb l.count (6 + 3 * l.question.rank) c.if-count-rank.true) at told.0; numbers_after = told.1 }

pub returns : goal.returns
returns c =
    let none = (goal.at.returns c).In-None in
    let told =
    unread none (λ e.
    elim c.else-rank-le4096.branch [
      | else-rank-le4096-via-then-rank-le4096+else-count-rank w ↦ w.if-count-rank.false e
      | else-rank-le4096-via-else-rank-le4096 w ↦ omega (arith, e, w.if-rank-le4096.false, last none, words_few c.args.line.now, c.requires)
    ]) in
    record { value = told.0; numbers_after = told.1 }
