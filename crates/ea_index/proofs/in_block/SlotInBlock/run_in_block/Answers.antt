-- `ea_index::in_block::SlotInBlock::run_in_block` meets its contract. Assumes nothing.
use Prim.Native.Nat.{◌/◌, ◌<◌}
use mathlib.Core.Path.{◌≡◌, sym, ◌∙◌}
use mathlib.Core.Bool.{true, false}
use native.Mathlib.Nat.{mod-lt}
use native.Mathlib.Omega.{arith}
use lib.Pow.{pow_pos}
use Rattle.ea_geometry.specs.Sizes.{page_elements}
use Rattle.ea_geometry.specs.Place.{in_pages}
use Rattle.ea_blocks.specs.Values.{array_in}
use Rattle.ea_blocks.specs.Structures.{page_set}
use Rattle.ea_blocks.proofs.Entering.{entered_at}
use Rattle.ea_index.proofs.InBlocks.{few, page_within}
use Rattle.ea_index.proofs.SlotRuns.{run_room, block_run, page_gap, page_run}
use Rattle.ea_index.proofs.in_block.SlotInBlock.run_in_block.Goals.{After-page_elements-page, After-page_set, Else-not-in_pages, Else-not-page_set, Start, Then-not-in_pages}
use Rattle.ea_index.proofs.in_block.SlotInBlock.run_in_block.Goals as goal

-- in a block that is read unpaged
unpaged : (c : Then-not-in_pages) → let s = c.args.self in in_pages s.array.array.extents.sizes.parameters s.u ≡ false
unpaged c = sym c.in_pages.ensures ∙ c.if-not-in_pages.true

pub block_element_at-requires : goal.block_element_at-requires
block_element_at-requires c = few c.args.self

pub overflow_add-pos : goal.overflow_add-pos
overflow_add-pos c =
    let r = block_run c.args.self c.requires.0 _ _ c.requires.1 (unpaged (goal.at.overflow_add-pos c).Then-not-in_pages) in
    let x = run_room _ _ _ _ r.0 in
    rw c.block_element_at.ensures (omega arith)

pub returns-then-not-in_pages : goal.returns-then-not-in_pages
returns-then-not-in_pages c =
    rw (c.block_element_at.ensures, c.block_elements.ensures)
    (block_run c.args.self c.requires.0 _ _ c.requires.1 (unpaged (goal.at.returns-then-not-in_pages c).Then-not-in_pages))

-- in one that is read by pages: its pages, and whether its own is set
paged : (c : Else-not-in_pages) → let s = c.args.self in in_pages s.array.array.extents.sizes.parameters s.u ≡ true
paged c = sym c.in_pages.ensures ∙ c.if-not-in_pages.false

some : (c : After-page_elements-page) → 0 < c.page_elements-page.result
unfolding page_elements
some c = rw c.page_elements-page.ensures (pow_pos _)

pub nonzero_rem-slots : goal.nonzero_rem-slots
nonzero_rem-slots c = let x = some (goal.at.nonzero_rem-slots c).After-page_elements-page in omega arith

pub overflow_sub-slots-2 : goal.overflow_sub-slots-2
overflow_sub-slots-2 c = let x = mod-lt c.args.self.i (some (goal.at.overflow_sub-slots-2 c).After-page_elements-page) in omega arith

pub nonzero_div-self : goal.nonzero_div-self
nonzero_div-self c = let x = some (goal.at.nonzero_div-self c).After-page_elements-page in omega arith

pub page_set-requires : goal.page_set-requires
page_set-requires c =
    let r = c.page_row.ensures in
    rw (r.0, r.1, c.page_elements-page.ensures) (page_within c.args.self (paged (goal.at.page_set-requires c).Else-not-in_pages))

set_is : (c : After-page_set)
    → let s = c.args.self in
    let a = array_in s.array.array in
    page_set a s.u s.k (s.i / page_elements a.parameters) ≡ c.page_set.result
set_is c =
    let r = c.page_row.ensures in
    sym ((rw (r.0, r.1, r.3, c.page_elements-page.ensures) at c.page_set.ensures) (entered_at _ _ _ c.requires.1.super _ r.2))

pub returns-then-not-page_set : goal.returns-then-not-page_set
returns-then-not-page_set c =
    let at = goal.at.returns-then-not-page_set c in
    rw c.page_elements-page.ensures
    (page_gap c.args.self c.requires.0 _ _ c.requires.1 (paged at.Else-not-in_pages) (set_is at.After-page_set ∙ c.if-not-page_set.true))

pub paged_element_at-requires : goal.paged_element_at-requires
paged_element_at-requires c = few c.args.self

pub overflow_add-pos-2 : goal.overflow_add-pos-2
overflow_add-pos-2 c =
    let at = goal.at.overflow_add-pos-2 c in
    let r = page_run c.args.self c.requires.0 _ _ c.requires.1 (paged at.Else-not-in_pages) (set_is at.After-page_set ∙ c.if-not-page_set.false) in
    let x = run_room _ _ _ _ r.0 in
    rw c.paged_element_at.ensures (omega arith)

pub returns : goal.returns
returns c =
    let at = goal.at.returns c in
    rw (c.paged_element_at.ensures, c.page_elements-page.ensures)
    (page_run c.args.self c.requires.0 _ _ c.requires.1 (paged at.Else-not-in_pages) (set_is at.After-page_set ∙ c.if-not-page_set.false))
