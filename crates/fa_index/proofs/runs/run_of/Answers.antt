-- `fa_index::runs::run_of` meets its contract. Assumes nothing.
use Prim.Native.Nat.{◌+◌, ◌*◌, ◌%◌, ◌≤◌}
use mathlib.Core.Path.{◌≡◌, sym, ◌∙◌}
use mathlib.Core.Bool.{true, false}
use native.Mathlib.Omega.{arith}
use lib.ListN.{length}
use Rattle.std.specs.Prelude.{Ok}
use Rattle.fa_geometry.specs.Layout.{is_paged}
use Rattle.fa_geometry.proofs.Pages.{slot_page}
use Rattle.fa_blocks.specs.FixedArray.{never_stored}
use Rattle.fa_blocks.specs.Blocks.{fixed_page_set, fixed_page_test, fixed_page_position}
use Rattle.fa_blocks.specs.Values.{fixed_in}
use Rattle.fa_blocks.proofs.FixedBlocks.{block_inside, page_figure}
use Rattle.fa_walk.proofs.Passed.{block_passed}
use Rattle.fa_index.proofs.Positions.{page_of, within_entries, entry_inside}
use Rattle.fa_index.proofs.SlotRuns.{never_run, block_run, page_gap, page_tested, page_run}
use Rattle.fa_index.proofs.runs.run_of.Goals.{Else-never_stored, Else-not-is_paged, After-page_set, After-page_position, Else-not-page_set, After-element_stride}
use Rattle.fa_index.proofs.runs.run_of.Goals as goal

pub returns-then-never_stored : goal.returns-then-never_stored
returns-then-never_stored c = never_run _ _ c.requires (sym (c.never_stored.ensures _) ∙ c.if-never_stored.true)

stored : (c : Else-never_stored) → never_stored (fixed_in c.args.array) ≡ false
stored c = sym (c.never_stored.ensures _) ∙ c.if-never_stored.false

-- the data block is unpaged
pub invariant_of-element_position-clause-inside : goal.invariant_of-element_position-clause-inside
invariant_of-element_position-clause-inside c = block_inside _ (block_passed _ _ (stored (goal.at.invariant_of-element_position-clause-inside c).Else-never_stored) c.requires.tests)

pub returns-then-not-is_paged : goal.returns-then-not-is_paged
returns-then-not-is_paged c =
    rw c.element_position-pos.ensures
    (block_run _ _ c.requires (stored (goal.at.returns-then-not-is_paged c).Else-never_stored) (sym c.is_paged.ensures ∙ c.if-not-is_paged.true))

-- it is paged
paged : (c : Else-not-is_paged) → is_paged c.args.array.layout.array.header ≡ true
paged c = sym c.is_paged.ensures ∙ c.if-not-is_paged.false

pub invariant_of-block-clause-inside : goal.invariant_of-block-clause-inside
invariant_of-block-clause-inside c = block_inside _ (block_passed _ _ (stored (goal.at.invariant_of-block-clause-inside c).Else-never_stored) c.requires.tests)

pub page_entries-requires : goal.page_entries-requires
page_entries-requires c = rw c.page_elements-page.ensures.0 (slot_page _ _ c.requires.entry)

pub overflow_sub-slots : goal.overflow_sub-slots
overflow_sub-slots c =
    let x = within_entries c.args.array.layout.array.header c.args.slot c.requires.entry in
    rw (c.page_entries.ensures.0, c.page_elements-page.ensures.0) (omega arith)

pub page_set-requires : goal.page_set-requires
page_set-requires c = rw c.page_elements-page.ensures.0 (slot_page _ _ c.requires.entry)

set_is : (c : After-page_set) → fixed_page_set (fixed_in c.args.array) (page_of c.args.array.layout.array.header c.args.slot) ≡ c.page_set.result
set_is c = rw (← c.page_elements-page.ensures.0) (sym c.page_set.ensures)

pub returns-then-not-page_set : goal.returns-then-not-page_set
returns-then-not-page_set c =
    let at = goal.at.returns-then-not-page_set c in
    rw (c.page_entries.ensures.0, c.page_elements-page.ensures.0)
    (page_gap _ _ c.requires (stored at.Else-never_stored) (paged at.Else-not-is_paged) (set_is at.After-page_set ∙ c.if-not-page_set.true))

-- it has passed its test: the element lies in the file
page_passed : (c : Else-not-page_set) → fixed_page_test (fixed_in c.args.array) (page_of c.args.array.layout.array.header c.args.slot) ≡ Ok tt
page_passed c =
    let at = goal.at.Else-not-page_set c in
    page_tested _ _ c.requires (stored at.Else-never_stored) (paged at.Else-not-is_paged) (set_is at.After-page_set ∙ c.if-not-page_set.false)

position_is : (c : After-page_position) → c.page_position.result ≡ fixed_page_position (fixed_in c.args.array) (page_of c.args.array.layout.array.header c.args.slot)
position_is c =
    let e = rw c.page_elements-page.ensures.0 at c.page_position.ensures in
    e ∙ page_figure _ _ (omega (arith, c.well_formed)) (page_passed (goal.at.After-page_position c).Else-not-page_set)

paged_room : (c : After-element_stride)
    → let a = c.args in
    let stride = c.element_stride.result in
    c.page_position.result + a.slot % c.page_elements-page.result * stride + stride ≤ length a.array.file.now
paged_room c =
    rw (c.element_stride.ensures, c.page_elements-page.ensures.0, position_is (goal.at.After-element_stride c).After-page_position)
    (entry_inside _ _ c.requires.entry (page_passed (goal.at.After-element_stride c).Else-not-page_set))

pub overflow_mul-pos : goal.overflow_mul-pos
overflow_mul-pos c = omega (arith, paged_room (goal.at.overflow_mul-pos c).After-element_stride)

pub overflow_add-pos : goal.overflow_add-pos
overflow_add-pos c = omega (arith, paged_room (goal.at.overflow_add-pos c).After-element_stride)

pub returns : goal.returns
returns c =
    let at = goal.at.returns c in
    rw (c.element_stride.ensures, position_is at.After-page_position, c.page_entries.ensures.0, c.page_elements-page.ensures.0)
    (page_run _ _ c.requires (stored at.Else-never_stored) (paged at.Else-not-is_paged) (set_is at.After-page_set ∙ c.if-not-page_set.false))
