-- `span_count::count::count_super` meets its contract. Assumes nothing.
use mathlib.Core.Path.{◌≡◌, sym, ap, ◌∙◌}
use mathlib.Core.Bool.{true, false}
use native.Mathlib.Omega.{arith}
use Rattle.std.proofs.Common.{rules, Ok, Err, Some}
use Rattle.refusal.specs.Values.{counted_of}
use Rattle.refusal.proofs.Outcomes.{yields_passed, yields_refused}
use Rattle.ea_geometry.specs.Sizes.{blocks}
use Rattle.ea_geometry.proofs.Counts.{blocks_few}
use Rattle.ea_blocks.specs.Values.{array_in}
use Rattle.ea_blocks.specs.Structures.{super_block, is_direct, super_block_at, super_undefined}
use Rattle.ea_blocks.specs.Entered.{EnteredSuper}
use Rattle.ea_blocks.proofs.Entering.{entered_at, entered_direct, entered_super_room}
use Rattle.ea_blocks.proofs.PointerValues.{pointer_undefined, pointer_at_lem}
use Rattle.ea_blocks.proofs.StructureTests.{is_direct_lem, not_direct}
use Rattle.span_walk.specs.Spans.{spanned_test}
use Rattle.span_walk.proofs.Turns.{super_direct, super_none, super_defined}
use Rattle.span_count.proofs.SuperBlocks.{entered_tested}
use Rattle.span_count.proofs.Counting.{counted_more, block_spans_few}
use Rattle.span_count.proofs.count.count_super.Goals.{Else-u-direct_super_blocks, In-Some, In_ok-test_super, Then-u-direct_super_blocks}
use Rattle.span_count.proofs.count.count_super.Goals as goal

-- the index block names the data blocks, ..
direct : (c : Then-u-direct_super_blocks) → let a = array_in c.args.array.array in is_direct a c.args.u ≡ true
direct c =
    let d = c.direct_super_blocks.ensures in
    is_direct_lem _ _ (omega arith)

pub returns-then-u-direct_super_blocks : goal.returns-then-u-direct_super_blocks
unfolding counted_of
returns-then-u-direct_super_blocks c = ap Ok c.count_blocks.ensures ∙ ap counted_of (sym (super_direct _ _ (direct (goal.at.returns-then-u-direct_super_blocks c).Then-u-direct_super_blocks)))

-- .. or the super block
beyond : (c : Else-u-direct_super_blocks) → let a = array_in c.args.array.array in is_direct a c.args.u ≡ false
beyond c =
    let d = c.direct_super_blocks.ensures in
    not_direct _ _ (omega arith)

pub returns-in_default : goal.returns-in_default
unfolding counted_of
returns-in_default c =
    ap counted_of (sym (super_none _ _ (beyond (goal.at.returns-in_default c).Else-u-direct_super_blocks) (pointer_undefined _ _ (sym c.in_default.is ∙ c.super_pointer.ensures))))

-- where it lies
found : (c : In-Some)
    → let a = array_in c.args.array.array in (super_undefined a c.args.u ≡ false) × (c.in-Some.at ≡ super_block_at a c.args.u)
found c = pointer_at_lem _ _ _ (sym c.in-Some.is ∙ c.super_pointer.ensures)

-- it has passed its tests
passed : (c : In_ok-test_super)
    → let a = array_in c.args.array.array in spanned_test a (super_block c.args.u) ≡ Ok tt
passed c =
    sym (c.test_super.ensures (found (goal.at.In_ok-test_super c).In-Some).1) ∙ c.in_ok-test_super.was

-- .. so it lies in the file
entered : (c : In_ok-test_super) → EnteredSuper (array_in c.args.array.array) c.args.u (Ok (Some (Some c.in-Some.at)))
entered c =
    let q = found (goal.at.In_ok-test_super c).In-Some in
    entered_tested _ _ _ (beyond (goal.at.In_ok-test_super c).Else-u-direct_super_blocks) q.0 q.1 (passed c)

pub invariant_of-count_blocks-2 : goal.invariant_of-count_blocks-2
invariant_of-count_blocks-2 c =
    let e = entered c in
    record { below = c.requires; direct = entered_direct _ _ _ e; inside = entered_super_room _ _ _ e }

pub count_blocks-requires-2 : goal.count_blocks-requires-2
count_blocks-requires-2 c = entered_at _ _ _ (entered (goal.at.count_blocks-requires-2 c).In_ok-test_super)

pub overflow_add-result : goal.overflow_add-result
overflow_add-result c =
    omega (
      arith,
      c.count_blocks-2.ensures,
      block_spans_few (array_in c.args.array.array) c.args.u (blocks c.args.u) 0,
      blocks_few c.args.array.array.extents.sizes.parameters c.args.array.array.extents.sizes.served c.args.u c.requires,
    )

pub returns : goal.returns
unfolding counted_of
returns c =
    counted_more _ _ _ (ap Ok c.count_blocks-2.ensures)
    ∙ ap counted_of (sym (super_defined _ _ (beyond (goal.at.returns c).Else-u-direct_super_blocks) (found (goal.at.returns c).In-Some).0 ∙ yields_passed _ _ (passed (goal.at.returns c).In_ok-test_super)))

pub returns-in_err-test_super : goal.returns-in_err-test_super
unfolding counted_of
returns-in_err-test_super c =
    let q = found (goal.at.returns-in_err-test_super c).In-Some in
    let z : c.from_residual.result ≡ Err c.in_err-test_super.field-0.0 = search rules in
    z ∙ ap counted_of (sym (super_defined _ _ (beyond (goal.at.returns-in_err-test_super c).Else-u-direct_super_blocks) q.0
    ∙ yields_refused _ _ _ (sym (c.test_super.ensures q.1) ∙ c.in_err-test_super.was)))
