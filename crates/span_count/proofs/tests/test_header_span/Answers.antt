-- `span_count::tests::test_header_span` meets its contract. Assumes nothing.
use Rattle.refusal.specs.Refusals.{figure}
use Rattle.span_count.proofs.SpanTests.{header-fits, header_past}
use Rattle.span_count.proofs.tests.test_header_span.Goals as goal

pub returns-then-last-lt18446744073709551615 : goal.returns-then-last-lt18446744073709551615
unfolding figure
returns-then-last-lt18446744073709551615 c =
    header-fits _ _ _ _ _ _ _ c.saturating_mul.ensures c.saturating_add-sizes.ensures
    c.saturating_add.ensures c.saturating_add-last.ensures c.if-last-lt18446744073709551615.true

pub returns : goal.returns
unfolding figure
returns c =
    header_past _ _ _ _ _ _ _ c.saturating_mul.ensures c.saturating_add-sizes.ensures
    c.saturating_add.ensures c.saturating_add-last.ensures _ c.serialized_size-length.ensures c.if-last-lt18446744073709551615.false
