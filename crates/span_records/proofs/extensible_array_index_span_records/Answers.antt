-- `span_records::extensible_array_index_span_records` meets its contract. Assumes nothing.
use mathlib.Core.Path.{sym, ◌∙◌}
use native.Mathlib.Omega.{arith}
use Rattle.std.proofs.Common.{rules}
use Rattle.refusal.proofs.Outcomes.{never}
use Rattle.span_records.specs.Stored.{spans_as_records}
use Rattle.span_records.proofs.Storing.{room_passed, listed_fit, listed_stored, refused_kept}
use Rattle.span_records.proofs.extensible_array_index_span_records.Goals as goal

pub returns-in_err-n : goal.returns-in_err-n
unfolding spans_as_records
returns-in_err-n c =
    let e = c.extensible_array_index_spans_within.ensures in
    let h = refused_kept _ _ _ _ _ (sym c.in_err-n.was ∙ e.0) in
    search rules

pub returns-in_err-store_spans : goal.returns-in_err-store_spans
returns-in_err-store_spans c =
    let e = c.extensible_array_index_spans_within.ensures in
    let had = rw (← e.1, ← e.2) at (listed_fit _ _ _ c.args.spans.now _ (sym c.in_ok-n.was ∙ e.0)) in
    let told = sym c.store_spans.ensures.checked ∙ c.in_err-store_spans.was in
    absurd (never _ _ (sym told ∙ sym (room_passed _ _ (omega (arith, had)))))

pub returns : goal.returns
unfolding spans_as_records
returns c =
    let e = c.extensible_array_index_spans_within.ensures in
    let listed = sym c.in_ok-n.was ∙ e.0 in
    (listed, e.1, e.2, c.store_spans.ensures.records ∙ rw (e.1, e.2) (listed_stored _ _ _ _ _ listed))
