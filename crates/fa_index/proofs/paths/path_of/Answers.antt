-- `fa_index::paths::path_of` meets its contract. Assumes nothing.
use Prim.Native.Nat.{◌+◌, ◌*◌, ◌%◌, ◌≤◌}
use mathlib.Core.Path.{◌≡◌, sym, ap, subst, ◌∙◌}
use mathlib.Core.Bool.{true, false}
use native.Mathlib.Omega.{arith}
use lib.ListN.{length}
use Rattle.std.proofs.Common.{rules}
use Rattle.std.specs.Prelude.{Ok, Option, Some, ℕ}
use Rattle.fa_geometry.specs.Layout.{is_paged}
use Rattle.fa_geometry.proofs.Pages.{slot_page}
use Rattle.fa_blocks.specs.FixedArray.{never_stored}
use Rattle.fa_blocks.specs.Blocks.{fixed_block_test}
use Rattle.fa_blocks.specs.Values.{fixed_in, EnteredFixedPage}
use Rattle.fa_blocks.proofs.FixedBlocks.{block_inside}
use Rattle.fa_index.proofs.Positions.{page_of, entry_inside}
use Rattle.fa_index.proofs.PathEnds.{never_ends, block_ends, unpaged_ends, clear_ends, refused_ends, paged_ends}
use Rattle.fa_index.proofs.paths.path_of.Goals.{In_ok-test_block, Else-not-is_paged, After-enter_page, In-Some, After-element_stride, Start}
use Rattle.refusal.specs.Refusals.{Outcome}
use Rattle.fa_index.proofs.paths.path_of.Goals as goal

pub returns-then-never_stored : goal.returns-then-never_stored
returns-then-never_stored c = never_ends _ _ (sym (c.never_stored.ensures _) ∙ c.if-never_stored.true)

pub returns-in_err-test_block : goal.returns-in_err-test_block
returns-in_err-test_block c =
    let x = block_ends (fixed_in c.args.array) c.args.slot (sym (c.never_stored.ensures _) ∙ c.if-never_stored.false) _ (sym c.test_block.ensures ∙ c.in_err-test_block.was) in
    search rules

-- the data block has passed its test
stored : (c : In_ok-test_block) → never_stored (fixed_in c.args.array) ≡ false
stored c = sym (c.never_stored.ensures _) ∙ c.if-never_stored.false

passed : (c : In_ok-test_block) → fixed_block_test (fixed_in c.args.array) ≡ Ok tt
passed c = sym c.test_block.ensures ∙ c.in_ok-test_block.was

-- it is unpaged
pub invariant_of-element_position-clause-inside : goal.invariant_of-element_position-clause-inside
invariant_of-element_position-clause-inside c = block_inside _ (passed (goal.at.invariant_of-element_position-clause-inside c).In_ok-test_block)

pub returns-then-not-is_paged : goal.returns-then-not-is_paged
returns-then-not-is_paged c =
    let t = (goal.at.returns-then-not-is_paged c).In_ok-test_block in
    rw c.element_position.ensures (unpaged_ends _ _ (stored t) (passed t) c.requires (sym c.is_paged.ensures ∙ c.if-not-is_paged.true))

-- it is paged
paged : (c : Else-not-is_paged) → is_paged c.args.array.layout.array.header ≡ true
paged c = sym c.is_paged.ensures ∙ c.if-not-is_paged.false

pub invariant_of-block-clause-inside : goal.invariant_of-block-clause-inside
invariant_of-block-clause-inside c = block_inside _ (passed (goal.at.invariant_of-block-clause-inside c).In_ok-test_block)

pub enter_page-requires : goal.enter_page-requires
enter_page-requires c = rw c.page_elements-page.ensures.0 (slot_page _ _ c.requires)

-- what stepping into the slot's page has found
abbrev EnteredAs : Start → Outcome (Option ℕ) → Type 0
EnteredAs c x = EnteredFixedPage (fixed_in c.args.array) (page_of c.args.array.layout.array.header c.args.slot) x

page : (c : After-enter_page) → EnteredAs (goal.at.After-enter_page c).Start c.enter_page.result
page c = rw (← c.page_elements-page.ensures.0) c.enter_page.ensures

pub returns-in_err-at : goal.returns-in_err-at
returns-in_err-at c =
    let at = goal.at.returns-in_err-at c in
    let t = at.In_ok-test_block in
    let x = refused_ends _ _ (stored t) (passed t) c.requires (paged at.Else-not-is_paged) _ (subst (EnteredAs at.Start) c.in_err-at.was (page at.After-enter_page)) in
    search rules

-- its bit is clear
pub returns-in_default : goal.returns-in_default
returns-in_default c =
    let at = goal.at.returns-in_default c in
    let t = at.In_ok-test_block in
    clear_ends _ _ (stored t) (passed t) c.requires (paged at.Else-not-is_paged)
    (subst (EnteredAs at.Start) (c.in_ok-at.was ∙ ap Ok c.in_default.is) (page at.After-enter_page))

-- it has passed its test: the element lies in the file
turned : (c : In-Some) → EnteredAs (goal.at.In-Some c).Start (Ok (Some c.in-Some.at))
turned c =
    let at = goal.at.In-Some c in
    subst (EnteredAs at.Start) (c.in_ok-at.was ∙ ap Ok c.in-Some.is) (page at.After-enter_page)

paged_room : (c : After-element_stride)
    → let a = c.args in
    let stride = c.element_stride.result in
    c.in-Some.at + a.slot % c.page_elements-page.result * stride + stride ≤ length a.array.file.now
paged_room c =
    let y = turned (goal.at.After-element_stride c).In-Some in
    rw (c.element_stride.ensures, c.page_elements-page.ensures.0, y.2) (entry_inside _ _ c.requires y.1)

pub overflow_mul-result : goal.overflow_mul-result
overflow_mul-result c = omega (arith, paged_room (goal.at.overflow_mul-result c).After-element_stride)

pub overflow_add-result : goal.overflow_add-result
overflow_add-result c = omega (arith, paged_room (goal.at.overflow_add-result c).After-element_stride)

pub returns : goal.returns
returns c =
    let at = goal.at.returns c in
    let t = at.In_ok-test_block in
    rw (c.element_stride.ensures, c.page_elements-page.ensures.0)
    (paged_ends _ _ (stored t) (passed t) c.requires (paged at.Else-not-is_paged) _ (turned at.In-Some))
