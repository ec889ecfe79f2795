-- `ea_spans::list_spans` meets its contract. Assumes nothing.
use Prim.Native.Nat.{ℕ, ◌+◌, min}
use mathlib.Core.Path.{◌≡◌, refl, sym, ap, ◌∙◌}
use mathlib.Core.List.{List}
use native.Mathlib.Omega.{arith}
use lib.ListN.{length}
use Rattle.std.proofs.Common.{rules, Err, Ok}
use Rattle.refusal.specs.Outcome.{also, in_room}
use Rattle.refusal.specs.Values.{counted_of}
use Rattle.refusal.proofs.Outcomes.{room_refused, room_small, room_fits}
use Rattle.refusal.proofs.Counts.{counted_inv, refused_inv}
use Rattle.ea_blocks.specs.Values.{array_in}
use Rattle.span_walk.specs.declared.Span.{Span}
use Rattle.span_walk.specs.Walk.{Spanning, index_spans}
use Rattle.ea_spans.specs.declared.lists.SpanLists.{SpanLists}
use Rattle.ea_spans.specs.SpanList.{room_of}
use Rattle.span_count.proofs.Counting.{counted_more, refused_more, index_bounded}
use Rattle.ea_spans.proofs.Writing.{Going, going_whole, going_done, going_put}
use Rattle.ea_spans.proofs.SpanList.{listed_refused}
use Rattle.ea_spans.proofs.list_spans.Goals.{Else-room-needed, In_ok-needed, Start}
use Rattle.ea_spans.proofs.list_spans.Goals as goal

-- the spans behind the header's, all spans, and the room for them
abbrev inner : Start → Spanning
inner s = index_spans (array_in s.args.array)

abbrev whole : Start → Spanning
whole s = also s.args.header (inner s)

abbrev room : Start → ℕ
room s = min (room_of s.args.addresses.now s.args.lengths.now) s.args.limit

pub overflow_add-needed : goal.overflow_add-needed
overflow_add-needed c =
    omega (
      arith,
      index_bounded (array_in c.args.array) _ c.args.array.extents.sizes.served
          (sym c.in_ok-needed.was ∙ c.count_index.ensures),
    )

pub returns-in_err-needed : goal.returns-in_err-needed
returns-in_err-needed c =
    let z : c.from_residual.result ≡ Err c.in_err-needed.field-0.0 = search rules in
    let a = listed_refused _ _ _ _ (room_refused _ _ _ (refused_inv _ _ (refused_more _ _ _ (sym c.in_err-needed.was ∙ c.count_index.ensures)))) in
    (z ∙ a.0, a.1, a.2)

counted : (c : In_ok-needed) → Ok (c.in_ok-needed.field-0 + 1) ≡ counted_of (whole (goal.at.In_ok-needed c).Start)
counted c = counted_more _ _ _ (sym c.in_ok-needed.was ∙ c.count_index.ensures)

listed : (c : In_ok-needed) → (l : List Span) × (whole (goal.at.In_ok-needed c).Start ≡ Ok l) × (c.in_ok-needed.field-0 + 1 ≡ length l)
listed c = counted_inv _ _ (counted c)

-- there is too little room
pub returns-then-room-needed : goal.returns-then-room-needed
returns-then-room-needed c =
    let i = listed (goal.at.returns-then-room-needed c).In_ok-needed in
    listed_refused _ _ _ _ (room_small _ (room (goal.at.returns-then-room-needed c).Start) i.0 i.1 _ i.2 (omega (arith, c.if-room-needed.true, c.min-room.ensures, c.min.ensures)))

-- there is room for all
roomy : (c : Else-room-needed) → in_room (whole (goal.at.Else-room-needed c).Start) (room (goal.at.Else-room-needed c).Start) ≡ whole (goal.at.Else-room-needed c).Start
roomy c =
    let i = listed (goal.at.Else-room-needed c).In_ok-needed in
    room_fits _ _ i.0 i.1 _ i.2 (omega (arith, c.if-room-needed.false, c.min-room.ensures, c.min.ensures))

-- all of them are left to write into the lists
begun : (c : Else-room-needed) (from : SpanLists) → from.next ≡ 0 → from.addresses.now ≡ c.args.addresses.now → from.lengths.now ≡ c.args.lengths.now
    → Going (whole (goal.at.Else-room-needed c).Start) from (whole (goal.at.Else-room-needed c).Start) from
begun c from n a l =
    let i = listed (goal.at.Else-room-needed c).In_ok-needed in
    let m = (c.min-room.ensures ∙ ap (λ (x : ℕ). min x c.args.limit) c.min.ensures) in
    let x = ap length a in
    let y = ap length l in
    going_whole (record { list = i.0; is = i.1; first = omega (arith, i.2, n, c.if-room-needed.false); second = omega (arith, i.2, n, c.if-room-needed.false) })

pub write_index-requires : goal.write_index-requires
write_index-requires c =
    (c.requires, (going_put _ _ (begun (goal.at.write_index-requires c).Else-room-needed _ refl refl refl) c.push.ensures).room)

pub returns : goal.returns
returns c =
    let g = begun (goal.at.returns c).Else-room-needed _ refl refl refl in
    let w = going_done (going_put _ _ g c.push.ensures) c.write_index.ensures in
    rw (roomy (goal.at.returns c).Else-room-needed) (counted (goal.at.returns c).In_ok-needed, search rules, search rules)
