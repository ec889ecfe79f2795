-- `questions::text::until` meets its contract: what `position` finds is where the first b stands.
use Rattle.std.proofs.Common.{◌≡◌, ◌≢◌, ◌∙◌, sym, None, Some, length, rules, tests, arith}
use Rattle.std.proofs.lemmas.Iterator.{IsFirst-from_position, YieldsList-from_slice}
use Rattle.std.proofs.lemmas.List.{take_all}
use Rattle.questions.proofs.Words.{before_from}
use Rattle.questions.proofs.text.until.Goals as goal

pub returns-in-Some-clause-result_value : goal.returns-in-Some-clause-result_value
returns-in-Some-clause-result_value c =
    let b = c.args.b in
    let found =
    IsFirst-from_position _ _ (Some c.in-Some.end) (λ x. x ≡ b) (λ x. x ≢ b) c.in-Some.ensures.ran
    (YieldsList-from_slice _ c.iter.ensures.rest) (λ x q k. search (rules, tests)) (λ x q k. search (rules, tests)) in
    before_from b _ c.in-Some.end (omega (arith, found.0)) found.2 (λ _. found.1)

pub returns-in-None-clause-result_value : goal.returns-in-None-clause-result_value
returns-in-None-clause-result_value c =
    let b = c.args.b in
    let s = c.args.s.now in
    let none =
    IsFirst-from_position _ _ None (λ x. x ≡ b) (λ x. x ≢ b) c.in-None.ensures.ran
    (YieldsList-from_slice s c.iter.ensures.rest) (λ x q k. search (rules, tests)) (λ x q k. search (rules, tests)) in
    sym (take_all (length s) s (omega arith)) ∙ before_from b s (length s) (omega arith) none (λ h. absurd (omega arith))
