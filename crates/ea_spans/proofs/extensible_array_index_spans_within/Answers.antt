-- `ea_spans::extensible_array_index_spans_within` meets its contract. Assumes nothing.
use mathlib.Core.Path.{◌≡◌, refl, sym, ◌∙◌}
use native.Mathlib.Omega.{arith}
use Rattle.std.proofs.Common.{rules, Ok, Err}
use Rattle.fields.proofs.Widths.{width_le}
use Rattle.ea_header.specs.Header.{header_at}
use Rattle.refusal.proofs.Outcomes.{room_refused, value_is, refused_is}
use Rattle.span_walk.specs.Walk.{head_test}
use Rattle.span_walk.proofs.Heads.{head_passed}
use Rattle.ea_spans.proofs.SpanList.{listed_refused, spans_refused, spans_are}
use Rattle.ea_spans.proofs.extensible_array_index_spans_within.Goals.{In_ok-header}
use Rattle.ea_spans.proofs.extensible_array_index_spans_within.Goals as goal

-- the header has passed its tests
read : (c : In_ok-header)
    → let a = c.args in
    (Ok tt ≡ head_test a.file.now a.address a.offset_size a.length_size)
    × (c.in_ok-header.header ≡ header_at a.file.now a.address a.offset_size a.length_size)
read c = value_is _ _ _ (sym c.in_ok-header.was ∙ c.parse_served.ensures)

pub invariant_of-array : goal.invariant_of-array
invariant_of-array c =
    let r = read (goal.at.invariant_of-array c).In_ok-header in
    rw r.1 (record { served = (head_passed _ _ _ _ r.0).2 })

pub invariant_of-array-2 : goal.invariant_of-array-2
invariant_of-array-2 c =
    record { legal = width_le _ (head_passed _ _ _ _ (read (goal.at.invariant_of-array-2 c).In_ok-header).0).1 }

pub list_spans-requires : goal.list_spans-requires
list_spans-requires c = (head_passed _ _ _ _ (read (goal.at.list_spans-requires c).In_ok-header).0).1

pub returns-in_err-header : goal.returns-in_err-header
returns-in_err-header c =
    let z : c.from_residual.result ≡ Err c.in_err-header.field-0.0 = search rules in
    let a = listed_refused _ _ _ _ (room_refused _ _ _ (spans_refused _ _ _ _ _ (refused_is _ _ _ (sym c.in_err-header.was ∙ c.parse_served.ensures)))) in
    (z ∙ a.0, a.1, a.2)

-- what is listed are the spans
pub returns : goal.returns
returns c =
    let r = read (goal.at.returns c).In_ok-header in
    let listed = spans_are _ _ _ _ r.0 (omega arith) _ (rw r.1 refl) _ c.serialized_size-length.ensures in
    rw (← listed) c.list_spans.ensures
