-- `span_count::tests::test_super` meets its contract. Assumes nothing.
use mathlib.Core.Path.{◌≡◌, sym, ◌∙◌}
use Rattle.std.proofs.Common.{rules, Err}
use Rattle.span_count.proofs.SpanTests.{spanned_passed, spanned_refused}
use Rattle.span_count.proofs.tests.test_super.Goals as goal

pub returns-in_err-test_span : goal.returns-in_err-test_span
returns-in_err-test_span c = λ e.
    let z : c.from_residual.result ≡ Err c.in_err-test_span.field-0.0 = search rules in
    z ∙ spanned_refused _ _ _ _ (c.super_span.ensures c.args.array.file.now e) (sym c.in_err-test_span.was ∙ c.test_span.ensures)

pub returns : goal.returns
returns c e =
    c.test_super_block.ensures e ∙ spanned_passed _ _ _ (c.super_span.ensures c.args.array.file.now e) (sym c.in_ok-test_span.was ∙ c.test_span.ensures)
