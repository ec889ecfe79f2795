-- `span_count::tests::parse_served` meets its contract. Assumes nothing.
use mathlib.Core.Path.{sym, ap, ◌∙◌}
use Rattle.std.proofs.Common.{rules}
use Rattle.refusal.specs.Refusals.{◌then◌}
use Rattle.refusal.specs.Outcome.{◌yields◌}
use Rattle.refusal.proofs.Outcomes.{value_is, refused_is}
use Rattle.ea_header.specs.declared.ExtensibleArrayHeader.{ExtensibleArrayHeader}
use Rattle.ea_header.specs.Served.{served_test}
use Rattle.span_walk.specs.Walk.{head_test}
use Rattle.span_count.proofs.tests.parse_served.Goals as goal

pub returns-in_err-test_header_span : goal.returns-in_err-test_header_span
unfolding head_test ◌then◌ ◌yields◌
returns-in_err-test_header_span c = search rules

pub returns-in_err-header : goal.returns-in_err-header
unfolding head_test ◌then◌ ◌yields◌
returns-in_err-header c =
    let e = refused_is _ _ _ (sym c.in_err-header.was ∙ c.parse.ensures) in
    search rules

pub returns-in_err-served_test : goal.returns-in_err-served_test
unfolding head_test ◌then◌ ◌yields◌
returns-in_err-served_test c =
    let r = value_is _ _ _ (sym c.in_ok-header.was ∙ c.parse.ensures) in
    let e = sym c.in_err-served_test.was ∙ c.served_test.ensures ∙ ap (λ (h : ExtensibleArrayHeader). served_test h.parameters) r.1 in
    search rules

pub returns : goal.returns
unfolding head_test ◌then◌ ◌yields◌
returns c =
    let r = value_is _ _ _ (sym c.in_ok-header.was ∙ c.parse.ensures) in
    let e = sym c.in_ok-served_test.was ∙ c.served_test.ensures ∙ ap (λ (h : ExtensibleArrayHeader). served_test h.parameters) r.1 in
    search rules
