-- Span records in a lent list.
use Rattle.std.specs.Prelude.{ℕ, zero, suc, min, List, ltb, length, get_or, set, Err, Ok}
use Rattle.std.proofs.lemmas.List.Edits.{sets}
use Rattle.refusal.specs.declared.Refusal.TheVariants.{ListTooSmall}
use Rattle.refusal.specs.Refusals.{refuse, Checked}
use Rattle.refusal.specs.Outcome.{in_room}
use Rattle.span_walk.specs.declared.Span.{Span}
use Rattle.span_walk.specs.Walk.{Spanning, spans}
use Rattle.ea_spans.specs.SpanList.{room_of}

-- span i, whose address and length two lists hold
abbrev pub span_at : List ℕ → List ℕ → ℕ → Span
span_at addresses lengths i = record { address = get_or addresses i 0; length = get_or lengths i 0 }

-- the first n records are the first n of these spans, and the others are as they were
abbrev pub stored : ℕ → List ℕ → List ℕ → List Span → List Span
stored zero addresses lengths spans = spans
stored (suc n) addresses lengths spans = set (stored n addresses lengths spans) n (span_at addresses lengths n)

-- Three lists hold as many spans as the shortest of them.
abbrev pub record_room : List ℕ → List ℕ → List Span → ℕ
record_room addresses lengths spans = min (room_of addresses lengths) (length spans)

-- 9, list too small (needed records)
unfoldable pub room_test : ℕ → ℕ → Checked
room_test n room = refuse (ListTooSmall n) (ltb room n)

-- the test that three lists hold n spans
abbrev pub store_test : ℕ → List ℕ → List ℕ → List Span → Checked
store_test n addresses lengths spans = room_test n (record_room addresses lengths spans)

-- how many are stored: n, or none after a refusal
unfoldable pub stored_number : Checked → ℕ → ℕ
stored_number (Ok tt) n = n
stored_number (Err r) n = 0

-- the records then
abbrev pub stored_where : ℕ → List ℕ → List ℕ → List Span → List Span
stored_where n addresses lengths spans =
    stored (stored_number (store_test n addresses lengths spans) n) addresses lengths spans

-- the spans of an index in the room of all three lists
unfoldable pub spans_as_records : List ℕ → ℕ → ℕ → ℕ → List ℕ → List ℕ → List Span → Spanning
spans_as_records f address o l addresses lengths records =
    in_room (spans f address o l) (record_room addresses lengths records)

-- The records then: the spans from number 0 on, and the others as they were. After a refusal all are as they were.
unfoldable pub recorded : Spanning → List Span → List Span
recorded (Err r) out = out
recorded (Ok l) out = sets out 0 l
