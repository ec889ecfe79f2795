-- `ea_index::in_block::SlotInBlock::path_in_block` meets its contract. Assumes nothing.
use Prim.Native.Nat.{◌/◌}
use mathlib.Core.Path.{◌≡◌, sym, ap, subst, ◌∙◌}
use mathlib.Core.Bool.{true, false}
use native.Mathlib.Omega.{arith}
use lib.Pow.{pow_pos}
use Rattle.std.proofs.Common.{rules}
use Rattle.std.specs.Prelude.{Ok, Option, Some, ℕ}
use Rattle.refusal.specs.Refusals.{Outcome}
use Rattle.ea_geometry.specs.Sizes.{page_elements}
use Rattle.ea_geometry.specs.Place.{in_pages}
use Rattle.ea_blocks.specs.Values.{array_in}
use Rattle.ea_blocks.specs.Entered.{EnteredPage}
use Rattle.ea_blocks.proofs.Entering.{entered_at}
use Rattle.ea_index.proofs.InBlocks.{few, page_within}
use Rattle.ea_index.proofs.PathEnds.{unpaged_room, unpaged_ends, clear_page_ends, refused_page_ends, paged_room, paged_ends}
use Rattle.ea_index.proofs.in_block.SlotInBlock.path_in_block.Goals.{After-enter_page, Else-not-in_pages, In-Some, Start, Then-not-in_pages}
use Rattle.ea_index.proofs.in_block.SlotInBlock.path_in_block.Goals as goal

-- the block is read unpaged
unpaged : (c : Then-not-in_pages) → let s = c.args.self in in_pages s.array.array.extents.sizes.parameters s.u ≡ false
unpaged c = sym c.in_pages.ensures ∙ c.if-not-in_pages.true

pub block_element_at-requires : goal.block_element_at-requires
block_element_at-requires c = few c.args.self

pub overflow_add-result : goal.overflow_add-result
overflow_add-result c =
    let x = unpaged_room c.args.self _ _ c.requires (unpaged (goal.at.overflow_add-result c).Then-not-in_pages) in
    rw c.block_element_at.ensures (omega arith)

pub returns-then-not-in_pages : goal.returns-then-not-in_pages
returns-then-not-in_pages c =
    rw c.block_element_at.ensures (unpaged_ends c.args.self _ _ c.requires (unpaged (goal.at.returns-then-not-in_pages c).Then-not-in_pages))

-- by pages, and the element's page is one of them
paged : (c : Else-not-in_pages) → let s = c.args.self in in_pages s.array.array.extents.sizes.parameters s.u ≡ true
paged c = sym c.in_pages.ensures ∙ c.if-not-in_pages.false

pub nonzero_div-p : goal.nonzero_div-p
unfolding page_elements
nonzero_div-p c = rw c.page_elements.ensures (omega (arith, pow_pos c.args.self.array.array.extents.sizes.parameters.max_dblk_nelmts_bits))

pub enter_page-requires : goal.enter_page-requires
enter_page-requires c =
    let r = c.page_row.ensures in
    rw (r.0, r.1, c.page_elements.ensures) (page_within c.args.self (paged (goal.at.enter_page-requires c).Else-not-in_pages))

-- what stepping into the page has found
abbrev EnteredAs : Start → Outcome (Option ℕ) → Type 0
EnteredAs c x =
    let s = c.args.self in
    let a = array_in s.array.array in
    EnteredPage a s.u s.k (s.i / page_elements a.parameters) x

page : (c : After-enter_page) → EnteredAs (goal.at.After-enter_page c).Start c.enter_page.result
page c =
    let r = c.page_row.ensures in
    (rw (r.0, r.1, r.3, r.4, c.page_elements.ensures) at c.enter_page.ensures) (entered_at _ _ _ c.requires.super _ r.2) c.requires.block.2

pub returns-in_err-enter_page : goal.returns-in_err-enter_page
returns-in_err-enter_page c =
    let at = goal.at.returns-in_err-enter_page c in
    let h = refused_page_ends c.args.self _ _ c.requires (paged at.Else-not-in_pages) _ (subst (EnteredAs at.Start) c.in_err-enter_page.was (page at.After-enter_page)) in
    search rules

pub returns-in_default : goal.returns-in_default
returns-in_default c =
    let at = goal.at.returns-in_default c in
    clear_page_ends c.args.self _ _ c.requires (paged at.Else-not-in_pages)
    (subst (EnteredAs at.Start) (c.in_ok-enter_page.was ∙ ap Ok c.in_default.is) (page at.After-enter_page))

-- the page has passed its test
passed : (c : In-Some) → EnteredAs (goal.at.In-Some c).Start (Ok (Some c.in-Some.field-0))
passed c =
    let at = goal.at.In-Some c in
    subst (EnteredAs at.Start) (c.in_ok-enter_page.was ∙ ap Ok c.in-Some.is) (page at.After-enter_page)

pub paged_element_at-requires : goal.paged_element_at-requires
paged_element_at-requires c = few c.args.self

pub overflow_add-result-2 : goal.overflow_add-result-2
overflow_add-result-2 c =
    let at = goal.at.overflow_add-result-2 c in
    let x = paged_room c.args.self _ _ c.requires (paged at.Else-not-in_pages) _ (passed at.In-Some) in
    rw c.paged_element_at.ensures (omega arith)

pub returns : goal.returns
returns c =
    let at = goal.at.returns c in
    rw c.paged_element_at.ensures (paged_ends c.args.self _ _ c.requires (paged at.Else-not-in_pages) _ (passed at.In-Some))
