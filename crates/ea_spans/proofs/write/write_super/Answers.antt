-- `ea_spans::write::write_super` meets its contract. Assumes nothing.
use mathlib.Core.Path.{◌≡◌, sym, ◌∙◌}
use mathlib.Core.Bool.{false}
use native.Mathlib.Omega.{arith}
use Rattle.std.proofs.Common.{rules}
use Rattle.std.specs.Prelude.{Ok, Some}
use Rattle.refusal.specs.Outcome.{also}
use Rattle.refusal.proofs.Outcomes.{yields_inv, yields_passed}
use Rattle.ea_geometry.specs.Sizes.{blocks}
use Rattle.ea_blocks.specs.Array.{Array}
use Rattle.ea_blocks.specs.Values.{array_in}
use Rattle.ea_blocks.specs.Entered.{EnteredSuper}
use Rattle.ea_blocks.specs.Structures.{super_block, is_direct, super_block_at, super_undefined}
use Rattle.ea_blocks.proofs.Entering.{entered_at, entered_direct, entered_super_room}
use Rattle.ea_blocks.proofs.PointerValues.{pointer_undefined, pointer_at_lem}
use Rattle.ea_blocks.proofs.StructureTests.{is_direct_lem, not_direct}
use Rattle.span_walk.specs.Spans.{spanned_test}
use Rattle.span_walk.specs.Walk.{Spanning, block_spans, super_spans}
use Rattle.span_walk.proofs.Turns.{super_direct, super_none, super_defined}
use Rattle.span_count.proofs.SuperBlocks.{entered_tested}
use Rattle.ea_spans.proofs.Writing.{Going, going_whole, going_as, going_done, going_none, going_fits, going_put}
use Rattle.ea_spans.proofs.write.write_super.Goals.{After-push, After-super_span, Else-u-direct_super_blocks, In-Some, Start, Then-u-direct_super_blocks}
use Rattle.ea_spans.proofs.write.write_super.Goals as goal

abbrev array : Start → Array
array s = array_in s.args.array.array

-- the spans of super block u are left to write
abbrev Left : Start → Spanning → Type 0
Left s a = Going (super_spans (array s) s.args.u) s.args.lists.now a s.args.lists.now

abbrev inner : Start → Spanning
inner s = Ok (block_spans (array s) s.args.u (blocks s.args.u) 0)

-- the index block names the data blocks, ..
direct : (c : Then-u-direct_super_blocks) → Left (goal.at.Then-u-direct_super_blocks c).Start (inner (goal.at.Then-u-direct_super_blocks c).Start)
direct c =
    let e = c.direct_super_blocks.ensures in
    going_as (super_direct _ _ (is_direct_lem _ _ (omega arith))) (going_whole c.requires.1)

pub write_blocks-requires : goal.write_blocks-requires
write_blocks-requires c = (search rules, (direct (goal.at.write_blocks-requires c).Then-u-direct_super_blocks).room)

pub returns-then-u-direct_super_blocks : goal.returns-then-u-direct_super_blocks
returns-then-u-direct_super_blocks c =
    going_done (direct (goal.at.returns-then-u-direct_super_blocks c).Then-u-direct_super_blocks) c.write_blocks.ensures

-- .. or the super block
beyond : (c : Else-u-direct_super_blocks) → is_direct (array (goal.at.Else-u-direct_super_blocks c).Start) c.args.u ≡ false
beyond c =
    let e = c.direct_super_blocks.ensures in
    not_direct _ _ (omega arith)

pub returns-in_default : goal.returns-in_default
returns-in_default c =
    going_none (going_as (super_none _ _ (beyond (goal.at.returns-in_default c).Else-u-direct_super_blocks)
    (pointer_undefined _ _ (sym c.in_default.is ∙ c.super_pointer.ensures))) (going_whole c.requires.1))

-- where it lies, and that it has passed its tests
found : (c : In-Some)
    → (super_undefined (array (goal.at.In-Some c).Start) c.args.u ≡ false) × (c.in-Some.at ≡ super_block_at (array (goal.at.In-Some c).Start) c.args.u)
    × (spanned_test (array (goal.at.In-Some c).Start) (super_block c.args.u) ≡ Ok tt)
found c =
    let q = pointer_at_lem _ _ _ (sym c.in-Some.is ∙ c.super_pointer.ensures) in
    let r = c.requires.1 in
    (q.0, q.1, (yields_inv _ _ _ (sym (super_defined _ _ (beyond (goal.at.In-Some c).Else-u-direct_super_blocks) q.0) ∙ r.is)).0)

entered : (c : In-Some) → EnteredSuper (array (goal.at.In-Some c).Start) c.args.u (Ok (Some (Some c.in-Some.at)))
entered c = let q = found c in entered_tested _ _ _ (beyond (goal.at.In-Some c).Else-u-direct_super_blocks) q.0 q.1 q.2

-- its span comes next
spanned : (c : After-super_span)
    → Left (goal.at.After-super_span c).Start (also c.super_span.result (inner (goal.at.After-super_span c).Start))
spanned c =
    let q = found (goal.at.After-super_span c).In-Some in
    rw (c.super_span.ensures c.args.array.array.file.now q.1)
    (going_as (super_defined _ _ (beyond (goal.at.After-super_span c).Else-u-direct_super_blocks) q.0 ∙ yields_passed _ _ q.2) (going_whole c.requires.1))

pub push-requires : goal.push-requires
push-requires c = going_fits _ _ (spanned (goal.at.push-requires c).After-super_span)

-- its data blocks come next
behind : (c : After-push)
    → Going (super_spans (array (goal.at.After-push c).Start) c.args.u) c.args.lists.now (inner (goal.at.After-push c).Start) c.push.new.self
behind c = going_put _ _ (spanned (goal.at.After-push c).After-super_span) c.push.ensures

pub invariant_of-write_blocks-2 : goal.invariant_of-write_blocks-2
invariant_of-write_blocks-2 c =
    let e = entered (goal.at.invariant_of-write_blocks-2 c).In-Some in
    record { below = c.requires.0; direct = entered_direct _ _ _ e; inside = entered_super_room _ _ _ e }

pub write_blocks-requires-2 : goal.write_blocks-requires-2
write_blocks-requires-2 c =
    (entered_at _ _ _ (entered (goal.at.write_blocks-requires-2 c).In-Some), (behind (goal.at.write_blocks-requires-2 c).After-push).room)

pub returns : goal.returns
returns c = going_done (behind (goal.at.returns c).After-push) c.write_blocks-2.ensures
