-- `span_count::tests::test_index` meets its contract. Assumes nothing.
use mathlib.Core.Path.{◌≡◌, sym, ap, ◌∙◌}
use Rattle.std.proofs.Common.{rules, Err}
use Rattle.ea_blocks.specs.Array.{Array}
use Rattle.ea_blocks.specs.Structures.{index_block, test_of}
use Rattle.span_count.proofs.SpanTests.{spanned_passed, spanned_refused}
use Rattle.span_count.proofs.tests.test_index.Goals as goal

pub returns-in_err-test_span : goal.returns-in_err-test_span
returns-in_err-test_span c =
    let e : c.from_residual.result ≡ Err c.in_err-test_span.field-0.0 = search rules in
    e ∙ spanned_refused _ _ _ _ (c.index_span.ensures c.args.array.file.now) (sym c.in_err-test_span.was ∙ c.test_span.ensures)

pub returns : goal.returns
returns c =
    c.test_index_block.ensures ∙ ap (λ (a : Array). test_of a index_block) c.array_alone.ensures
    ∙ spanned_passed _ _ _ (c.index_span.ensures c.args.array.file.now) (sym c.in_ok-test_span.was ∙ c.test_span.ensures)
