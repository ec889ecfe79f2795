-- `span_count::count::count_index` meets its contract. Assumes nothing.
use mathlib.Core.Path.{◌≡◌, sym, ap, ◌∙◌}
use mathlib.Core.Bool.{false}
use native.Mathlib.Omega.{arith}
use Rattle.std.proofs.Common.{rules, Ok, Err}
use Rattle.refusal.specs.Outcome.{also}
use Rattle.refusal.specs.Values.{counted_of}
use Rattle.refusal.proofs.Tests.{then_inv}
use Rattle.refusal.proofs.Outcomes.{yields_passed, yields_refused}
use Rattle.fields.specs.Fields.{undefined}
use Rattle.ea_geometry.specs.Sizes.{super_blocks}
use Rattle.ea_blocks.specs.Array.{Array}
use Rattle.ea_blocks.specs.Values.{array_in}
use Rattle.ea_blocks.specs.Structures.{index_block}
use Rattle.ea_blocks.proofs.StructureTests.{index_inside}
use Rattle.span_walk.specs.Spans.{span_of, spanned_test}
use Rattle.span_walk.specs.Walk.{supers_from, index_spans}
use Rattle.span_walk.proofs.Turns.{index_none, index_defined}
use Rattle.span_count.proofs.Counting.{counted_more, refused_more, supers_bounded}
use Rattle.span_count.proofs.count.count_index.Goals.{After-index_undefined, Else-index_undefined, In_ok-test_index}
use Rattle.span_count.proofs.count.count_index.Goals as goal

-- whether the index block's address is undefined, which is tested of the array without its file
tested : (c : After-index_undefined) → let a = array_in c.args.array in undefined a.offset_size a.index_at ≡ c.index_undefined.result
tested c = sym (c.index_undefined.ensures ∙ ap (λ (a : Array). undefined a.offset_size a.index_at) c.array_alone.ensures)

pub returns-then-index_undefined : goal.returns-then-index_undefined
unfolding counted_of
returns-then-index_undefined c =
    ap counted_of (sym (index_none _ (tested (goal.at.returns-then-index_undefined c).After-index_undefined ∙ c.if-index_undefined.true)))

-- there is an index block ..
there : (c : Else-index_undefined) → let a = array_in c.args.array in undefined a.offset_size a.index_at ≡ false
there c = tested (goal.at.Else-index_undefined c).After-index_undefined ∙ c.if-index_undefined.false

-- .. and it has passed its tests
passed : (c : In_ok-test_index) → let a = array_in c.args.array in
    (spanned_test a index_block ≡ Ok tt) × (index_spans a ≡ also (span_of a index_block) (supers_from a (super_blocks a.parameters) 0))
passed c =
    let p = sym c.test_index.ensures ∙ c.in_ok-test_index.was in
    (p, index_defined _ (there (goal.at.In_ok-test_index c).Else-index_undefined) ∙ yields_passed _ _ p)

pub invariant_of-count_supers-clause-inside : goal.invariant_of-count_supers-clause-inside
unfolding spanned_test
invariant_of-count_supers-clause-inside c = index_inside _ (then_inv _ _ (passed (goal.at.invariant_of-count_supers-clause-inside c).In_ok-test_index).0).1

pub overflow_add-result : goal.overflow_add-result
overflow_add-result c =
    omega (arith, supers_bounded (array_in c.args.array) _ c.args.array.extents.sizes.served (sym c.in_ok-count_supers.was ∙ c.count_supers.ensures))

pub returns-in_err-test_index : goal.returns-in_err-test_index
unfolding counted_of
returns-in_err-test_index c =
    let z : c.from_residual.result ≡ Err c.in_err-test_index.field-0.0 = search rules in
    z ∙ ap counted_of (sym (index_defined _ (there (goal.at.returns-in_err-test_index c).Else-index_undefined) ∙ yields_refused _ _ _ (sym c.test_index.ensures ∙ c.in_err-test_index.was)))

pub returns-in_err-count_supers : goal.returns-in_err-count_supers
returns-in_err-count_supers c =
    let z : c.from_residual-in_err-count_supers.result ≡ Err c.in_err-count_supers.field-0.0 = search rules in
    z ∙ refused_more _ _ _ (sym c.in_err-count_supers.was ∙ c.count_supers.ensures) ∙ ap counted_of (sym (passed (goal.at.returns-in_err-count_supers c).In_ok-test_index).1)

pub returns : goal.returns
returns c =
    counted_more _ _ _ (sym c.in_ok-count_supers.was ∙ c.count_supers.ensures) ∙ ap counted_of (sym (passed (goal.at.returns c).In_ok-test_index).1)
