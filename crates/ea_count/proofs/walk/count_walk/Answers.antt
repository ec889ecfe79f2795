-- `ea_count::walk::count_walk` meets its contract. Assumes nothing.
use Prim.Native.Nat.{ℕ, ◌+◌, ◌-◌, ◌*◌, ◌≤◌}
use mathlib.Core.Path.{◌≡◌, sym, ap, subst, ◌∙◌}
use mathlib.Core.Bool.{true}
use mathlib.Core.List.{[]}
use Rattle.std.proofs.Common.{rules}
use native.Mathlib.Bridge.{le_prop}
use native.Mathlib.Omega.{arith}
use lib.ListN.{length}
use Rattle.std.specs.Prelude.{Ok}
use Rattle.refusal.specs.declared.Refusal.TheVariants.{OffsetSize}
use Rattle.refusal.specs.Values.{plus, counted_of}
use Rattle.refusal.proofs.Tests.{then_inv}
use Rattle.fields.specs.Fields.{is_width}
use Rattle.fields.proofs.Fields.{width_passed}
use Rattle.element_form.specs.Form.{stride}
use Rattle.chunk_grid.specs.Grid.{Grid}
use Rattle.elements.specs.Values.{elements_of, Reads}
use Rattle.elements.proofs.Readers.{reads_any}
use Rattle.elements.specs.Runs.{elements_from}
use Rattle.ea_header.specs.Values.{Served}
use Rattle.ea_header.proofs.Served.{tested_serves}
use Rattle.ea_geometry.specs.Extents.{form_of, element_stride, inline_element_at}
use Rattle.ea_geometry.specs.Sizes.{super_blocks}
use Rattle.ea_geometry.specs.Slots.{first_slot}
use Rattle.ea_geometry.proofs.Places.{first_slot_zero}
use Rattle.ea_blocks.specs.Array.{Array}
use Rattle.ea_blocks.specs.Values.{array_of}
use Rattle.ea_blocks.specs.Structures.{index_block, test_of, array_test}
use Rattle.ea_blocks.proofs.StructureTests.{index_in_file}
use Rattle.ea_walk.specs.Walk.{supers_from}
use Rattle.elements.proofs.Runs.{count_few}
use Rattle.ea_count.proofs.Heads.{walk_refused, walk_passed, inline_refused, inline_counted, inline_room}
use Rattle.ea_count.proofs.walk.count_walk.Goals.{After-count_elements, After-inline_element_at, Else-not-is_width, In_ok-test_array}
use Rattle.ea_count.proofs.walk.count_walk.Goals as goal

pub returns-in_err-test_array : goal.returns-in_err-test_array
returns-in_err-test_array c = λ grid n x.
    let a = c.args in
    let h = walk_refused (array_of a.file.now a.array) (elements_of a.file.now a.reader.now grid n) _ (sym c.test_array.ensures ∙ c.in_err-test_array.was) in
    search rules

tested : (c : In_ok-test_array) → array_test (array_of c.args.file.now c.args.array) ≡ Ok tt
tested c = sym c.test_array.ensures ∙ c.in_ok-test_array.was

passed : (c : In_ok-test_array)
    → Served c.args.array.geometry.parameters × (test_of (array_of c.args.file.now c.args.array) index_block ≡ Ok tt)
unfolding array_test
passed c = let t = then_inv _ _ (tested c) in (tested_serves _ t.0, t.1)

wide : (c : Else-not-is_width) → is_width c.args.array.geometry.offset_size ≡ true
wide c = sym c.is_width.ensures ∙ c.if-not-is_width.false

-- where the first inline element lies is the same in the array in the file
moved : (c : After-inline_element_at)
    → c.inline_element_at.result ≡ inline_element_at c.args.array.geometry.parameters c.args.array.geometry.offset_size 0
moved c =
    c.inline_element_at.ensures ∙ ap (λ (y : Array). inline_element_at y.parameters y.offset_size 0) c.in_file-pointed.ensures

-- the inline elements lie in the file
room : (c : After-inline_element_at)
    → let a = c.args in
    a.array.index_at + c.inline_element_at.result
    + a.array.geometry.parameters.idx_blk_elmts * element_stride a.array.geometry.parameters a.array.geometry.offset_size
    ≤ length a.file.now
room c =
    inline_room (array_of c.args.file.now c.args.array) _ (passed (goal.at.After-inline_element_at c).In_ok-test_array).1 (ap (λ (n : ℕ). c.args.array.index_at + n) (moved c))

-- they are counted
counts : (c : After-count_elements) (grid : Grid) (n : ℕ)
    → let a = c.args in
    Reads a.reader.now grid n
    → c.count_elements.result
    ≡ counted_of (elements_from (elements_of a.file.now a.reader.now grid n) (a.array.index_at + inline_element_at a.array.geometry.parameters a.array.geometry.offset_size 0)
    a.array.geometry.parameters.idx_blk_elmts 0 (Ok []))
counts c grid n r =
    let a = c.args in
    c.count_elements.ensures grid n r
    ∙ ap (λ (x : ℕ). counted_of (elements_from (elements_of a.file.now a.reader.now grid n) (a.array.index_at + x) a.array.geometry.parameters.idx_blk_elmts 0 (Ok [])))
    (moved (goal.at.After-count_elements c).After-inline_element_at)

pub count_unreadable-requires : goal.count_unreadable-requires
count_unreadable-requires c =
    (c.requires, sym c.is_width.ensures ∙ c.if-not-is_width.true)

pub returns-then-not-is_width : goal.returns-then-not-is_width
returns-then-not-is_width c = λ grid n x. c.count_unreadable.ensures _ grid n ∙ walk_passed _ _ (tested (goal.at.returns-then-not-is_width c).In_ok-test_array)

pub in_file-pointed-requires : goal.in_file-pointed-requires
in_file-pointed-requires c =
    let p = passed (goal.at.in_file-pointed-requires c).In_ok-test_array in
    index_in_file _ _ p.0 (wide (goal.at.in_file-pointed-requires c).Else-not-is_width) p.1

pub overflow_add-pos : goal.overflow_add-pos
overflow_add-pos c = omega (arith, room (goal.at.overflow_add-pos c).After-inline_element_at)

pub count_elements-requires : goal.count_elements-requires
count_elements-requires c =
    subst (λ (n : ℕ). c.args.array.index_at + c.inline_element_at.result + c.args.array.geometry.parameters.idx_blk_elmts * n ≤ length c.args.file.now) (ap stride c.requires) (room (goal.at.count_elements-requires c).After-inline_element_at)

pub returns-in_err-n : goal.returns-in_err-n
returns-in_err-n c = λ grid n x.
    let h = inline_refused _ _ _ (sym c.in_err-n.was ∙ counts (goal.at.returns-in_err-n c).After-count_elements grid n x) ∙ walk_passed _ _ (tested (goal.at.returns-in_err-n c).In_ok-test_array) in
    search rules

pub count_blocks-requires : goal.count_blocks-requires
count_blocks-requires c =
    let n = c.super_blocks.ensures in
    let e = c.in_file-pointed.ensures in
    let few = reads_any c.args.reader.now le_prop (λ grid m x.
    count_few (elements_of c.args.file.now c.args.reader.now grid m) _ _ _ _ (sym c.in_ok-n.was ∙ counts (goal.at.count_blocks-requires c).After-count_elements grid m x)) in
    record {
      formed = ap (λ (y : Array). form_of y.parameters y.offset_size) e ∙ c.requires;
      few = omega (arith, ap (λ (y : Array). first_slot y.parameters 0) e, first_slot_zero c.args.array.geometry.parameters, few);
      ordered = omega arith;
      supers = omega (arith, n);
    }

pub returns : goal.returns
returns c = λ grid n x.
    let a = c.args in
    let e = c.in_file-pointed.ensures in
    inline_counted _ _ _ (sym c.in_ok-n.was ∙ counts (goal.at.returns c).After-count_elements grid n x) (sym (width_passed (OffsetSize _) _ (wide (goal.at.returns c).Else-not-is_width)))
    _ (c.super_blocks.ensures ∙ ap (λ (y : Array). super_blocks y.parameters) e)
    (subst (λ (y : Array). c.count_blocks.result ≡ plus c.in_ok-n.n (supers_from y (elements_of y.file a.reader.now grid n) (c.super_blocks.result - 0) 0 (first_slot y.parameters 0) (Ok []))) e (c.count_blocks.ensures grid n x))
    ∙ walk_passed _ _ (tested (goal.at.returns c).In_ok-test_array)
