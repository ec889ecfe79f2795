-- `ea_count::count_blocks` meets its contract. The invariant of each of its three loops: at super block u, at its
-- data block k, and at page p of that, the records that are counted and what the walk gives from there on are the
-- whole (`Invariants`). A refusal, or the count's end, leaves all three loops with the whole's answer. Assumes nothing.
use mathlib.Core.Path.{refl, sym, ap, subst, ◌∙◌}
use mathlib.Core.Logic.{inl, inr}
use native.Mathlib.Omega.{arith}
use Rattle.std.proofs.Common.{rules}
use Rattle.std.specs.Prelude.{Ok}
use Rattle.ea_blocks.specs.Entered.{EnteredSuper, EnteredBlock, EnteredPage}
use Rattle.ea_count.proofs.Invariants.{Open, supers_first, supers_ends, count_ends, super_fits, super_absent, super_ends, blocks-first, supers_next, super_here, row_direct, row_inside, paged_super, block_there_lem, pages_inside, block_found, block-fits, direct_ends, blocks_next, block_absent, block_ends, pages-first, unpaged_begins, unpaged_run, unpaged_ends, unpaged_fits, unpaged_behind, pages-behind, page_there, page_found, page_fits, pages_clear, page_ends_walk, page_run, page_run_ends, page_total_fits, page_last, pages_on}
use Rattle.ea_count.proofs.count_blocks.Goals.{Joined-u-directs, then-u-directs+else-count-slot-2, else-u-directs, then-in_pages+else-pages-test, then-in_pages+then-pages-test+in_ok-pos+in-Some-3+in_ok-total+then-count-from, else-in_pages+in_ok-total-2}
use Rattle.ea_count.proofs.count_blocks.Goals as goal

pub supers-init : goal.supers-init
supers-init c =
    supers_first _
    (record {
      walk = c.requires;
      counts = refl;
      direct_ones = c.direct_super_blocks-directs.ensures;
      page_size = c.page_elements-page.ensures;
      inline_few = omega (arith, c.well_formed);
      small = omega (arith, c.well_formed);
    })
    c.first_slot-slot.ensures

pub returns-in_err-super_at : goal.returns-in_err-super_at
returns-in_err-super_at c = λ grid n x.
    let h = (super_ends c.supers.invariant c.supers-test.true c.if-count-slot.false _ (subst (EnteredSuper _ _) c.in_err-super_at.was c.enter_super.ensures)) grid n x in
    search rules

pub overflow_mul-slot : goal.overflow_mul-slot
overflow_mul-slot c =
    omega (arith, (super_fits c.supers.invariant c.supers-test.true _ _ c.blocks-blocks.ensures c.block_elements-elements.ensures).0)

pub overflow_add-slot : goal.overflow_add-slot
overflow_add-slot c =
    omega (arith, (super_fits c.supers.invariant c.supers-test.true _ _ c.blocks-blocks.ensures c.block_elements-elements.ensures).1)

pub supers-preserved-in_default : goal.supers-preserved-in_default
supers-preserved-in_default c =
    super_absent c.supers.invariant c.supers-test.true c.if-count-slot.false c.blocks-blocks.ensures c.block_elements-elements.ensures
    (subst (EnteredSuper _ _) (c.in_ok-super_at.was ∙ ap Ok c.in_default.is) c.enter_super.ensures)

pub blocks-2-init : goal.blocks-2-init
blocks-2-init c =
    blocks-first c.supers.invariant c.supers-test.true c.if-count-slot.false c.blocks-blocks.ensures c.block_elements-elements.ensures
    (subst (EnteredSuper _ _) (c.in_ok-super_at.was ∙ ap Ok c.in-Some.is) c.enter_super.ensures)

pub enter_block_in_turn-turn-requires : goal.enter_block_in_turn-turn-requires
enter_block_in_turn-turn-requires c = block_there_lem c.blocks-2.invariant c.blocks-2-test.true

-- data block k is open: it is not one that the index block names, or the count goes on
opens : (c : Joined-u-directs) → Open c.supers.u c.direct_super_blocks-directs.result c.blocks-2.slot c.args.reader.now.count
opens c = elim c.if-u-directs.branch [
  | then-u-directs+else-count-slot-2 w ↦ inl (w.if-u-directs.true, w.if-count-slot-2.false)
  | else-u-directs w ↦ inr w.if-u-directs.false
]

pub returns-in_err-at : goal.returns-in_err-at
returns-in_err-at c = λ grid n x.
    let i = c.blocks-2.invariant in
    let y = c.enter_block_in_turn-turn in
    let e = block_found i c.blocks-2-test.true y.result.found y.result.ahead y.ensures in
    let h = (block_ends i c.blocks-2-test.true (opens (goal.at.returns-in_err-at c).Joined-u-directs) _ (subst (EnteredBlock _ _ _) c.in_err-at.was e.0)) grid n x in
    search rules

pub overflow_add-slot-in_default-2 : goal.overflow_add-slot-in_default-2
overflow_add-slot-in_default-2 c =
    omega (arith, block-fits c.blocks-2.invariant c.blocks-2-test.true)

pub blocks-2-preserved-in_default-2 : goal.blocks-2-preserved-in_default-2
blocks-2-preserved-in_default-2 c =
    let i = c.blocks-2.invariant in
    let x = c.enter_block_in_turn-turn in
    let e = block_found i c.blocks-2-test.true x.result.found x.result.ahead x.ensures in
    blocks_next i c.blocks-2-test.true refl
    (block_absent i c.blocks-2-test.true (opens (goal.at.blocks-2-preserved-in_default-2 c).Joined-u-directs)
    (subst (EnteredBlock _ _ _) (c.in_ok-at.was ∙ ap Ok c.in_default-2.is) e.0)) e.1

pub pages-init : goal.pages-init
pages-init c =
    let i = c.blocks-2.invariant in
    let x = c.enter_block_in_turn-turn in
    let e = block_found i c.blocks-2-test.true x.result.found x.result.ahead x.ensures in
    pages-first i c.blocks-2-test.true (opens (goal.at.pages-init c).Joined-u-directs)
    (subst (EnteredBlock _ _ _) (c.in_ok-at.was ∙ ap Ok c.in-Some-2.is) e.0) (sym c.in_pages.ensures ∙ c.if-in_pages.true) c.pages-pages.ensures

pub enter_page_in_turn-turn-requires : goal.enter_page_in_turn-turn-requires
enter_page_in_turn-turn-requires c = page_there c.pages.invariant c.pages-test.true

pub returns-in_err-pos : goal.returns-in_err-pos
returns-in_err-pos c = λ grid n x.
    let i = c.pages.invariant in
    let y = c.enter_page_in_turn-turn in
    let e = page_found i c.pages-test.true c.unwrap.ensures y.result.found y.result.ahead y.ensures in
    let h = (page_ends_walk i c.pages-test.true _ (subst (EnteredPage _ _ _ _) c.in_err-pos.was e.0)) grid n x in
    search rules

pub overflow_add-from : goal.overflow_add-from
overflow_add-from c =
    omega (arith, page_fits c.pages.invariant c.pages-test.true)

pub pages-preserved-in_default-3 : goal.pages-preserved-in_default-3
pages-preserved-in_default-3 c =
    let i = c.pages.invariant in
    let x = c.enter_page_in_turn-turn in
    let e = page_found i c.pages-test.true c.unwrap.ensures x.result.found x.result.ahead x.ensures in
    pages_clear i c.pages-test.true (subst (EnteredPage _ _ _ _) (c.in_ok-pos.was ∙ ap Ok c.in_default-3.is) e.0) e.1

pub count_elements-requires : goal.count_elements-requires
count_elements-requires c =
    let i = c.pages.invariant in
    let x = c.enter_page_in_turn-turn in
    let e = page_found i c.pages-test.true c.unwrap.ensures x.result.found x.result.ahead x.ensures in
    page_run i c.pages-test.true (subst (EnteredPage _ _ _ _) (c.in_ok-pos.was ∙ ap Ok c.in-Some-3.is) e.0)

pub returns-in_err-total : goal.returns-in_err-total
returns-in_err-total c = λ grid n x.
    let i = c.pages.invariant in
    let y = c.enter_page_in_turn-turn in
    let e = page_found i c.pages-test.true c.unwrap.ensures y.result.found y.result.ahead y.ensures in
    let h = (page_run_ends i c.pages-test.true (subst (EnteredPage _ _ _ _) (c.in_ok-pos.was ∙ ap Ok c.in-Some-3.is) e.0) _ (λ g k z. sym c.in_err-total.was ∙ c.count_elements.ensures g k z)) grid n x in
    search rules

pub overflow_add-total : goal.overflow_add-total
overflow_add-total c =
    let i = c.pages.invariant in
    let x = c.enter_page_in_turn-turn in
    let e = page_found i c.pages-test.true c.unwrap.ensures x.result.found x.result.ahead x.ensures in
    omega (
      arith,
      page_total_fits i c.pages-test.true (subst (EnteredPage _ _ _ _) (c.in_ok-pos.was ∙ ap Ok c.in-Some-3.is) e.0)
          (λ g k z. sym c.in_ok-total.was ∙ c.count_elements.ensures g k z),
    )

pub overflow_add-from-in-pages : goal.overflow_add-from-in-pages
overflow_add-from-in-pages c =
    omega (arith, page_fits c.pages.invariant c.pages-test.true)

pub pages-preserved : goal.pages-preserved
pages-preserved c =
    let i = c.pages.invariant in
    let x = c.enter_page_in_turn-turn in
    let e = page_found i c.pages-test.true c.unwrap.ensures x.result.found x.result.ahead x.ensures in
    pages_on i c.pages-test.true (subst (EnteredPage _ _ _ _) (c.in_ok-pos.was ∙ ap Ok c.in-Some-3.is) e.0)
    (λ g k z. sym c.in_ok-total.was ∙ c.count_elements.ensures g k z) c.if-count-from.false e.1

pub overflow_add-pos : goal.overflow_add-pos
overflow_add-pos c =
    let i = c.blocks-2.invariant in
    let x = c.enter_block_in_turn-turn in
    let e = block_found i c.blocks-2-test.true x.result.found x.result.ahead x.ensures in
    omega (
      arith,
      unpaged_begins i c.blocks-2-test.true (opens (goal.at.overflow_add-pos c).Joined-u-directs)
          (subst (EnteredBlock _ _ _) (c.in_ok-at.was ∙ ap Ok c.in-Some-2.is) e.0) (sym c.in_pages.ensures ∙ c.if-in_pages.false) c.block_element_at.ensures,
    )

pub count_elements-requires-else-in_pages : goal.count_elements-requires-else-in_pages
count_elements-requires-else-in_pages c =
    let i = c.blocks-2.invariant in
    let x = c.enter_block_in_turn-turn in
    let e = block_found i c.blocks-2-test.true x.result.found x.result.ahead x.ensures in
    unpaged_run i c.blocks-2-test.true (opens (goal.at.count_elements-requires-else-in_pages c).Joined-u-directs)
    (subst (EnteredBlock _ _ _) (c.in_ok-at.was ∙ ap Ok c.in-Some-2.is) e.0) (sym c.in_pages.ensures ∙ c.if-in_pages.false) c.block_element_at.ensures

pub returns-in_err-total-2 : goal.returns-in_err-total-2
returns-in_err-total-2 c = λ grid n x.
    let i = c.blocks-2.invariant in
    let y = c.enter_block_in_turn-turn in
    let e = block_found i c.blocks-2-test.true y.result.found y.result.ahead y.ensures in
    let h = (unpaged_ends i c.blocks-2-test.true (opens (goal.at.returns-in_err-total-2 c).Joined-u-directs)
    (subst (EnteredBlock _ _ _) (c.in_ok-at.was ∙ ap Ok c.in-Some-2.is) e.0) (sym c.in_pages.ensures ∙ c.if-in_pages.false) c.block_element_at.ensures _
    (λ g k z. sym c.in_err-total-2.was ∙ c.count_elements-else-in_pages.ensures g k z)) grid n x in
    search rules

pub overflow_add-total-else-in_pages : goal.overflow_add-total-else-in_pages
overflow_add-total-else-in_pages c =
    let i = c.blocks-2.invariant in
    let x = c.enter_block_in_turn-turn in
    let e = block_found i c.blocks-2-test.true x.result.found x.result.ahead x.ensures in
    omega (
      arith,
      unpaged_fits i c.blocks-2-test.true (opens (goal.at.overflow_add-total-else-in_pages c).Joined-u-directs)
          (subst (EnteredBlock _ _ _) (c.in_ok-at.was ∙ ap Ok c.in-Some-2.is) e.0) (sym c.in_pages.ensures ∙ c.if-in_pages.false) c.block_element_at.ensures
          (λ g k z. sym c.in_ok-total-2.was ∙ c.count_elements-else-in_pages.ensures g k z),
    )

pub overflow_add-slot-in-blocks-2 : goal.overflow_add-slot-in-blocks-2
overflow_add-slot-in-blocks-2 c =
    omega (arith, block-fits c.blocks-2.invariant c.blocks-2-test.true)

pub blocks-2-preserved : goal.blocks-2-preserved
blocks-2-preserved c =
    let i = c.blocks-2.invariant in
    let lt = c.blocks-2-test.true in
    let x = c.enter_block_in_turn-turn in
    let e = block_found i lt x.result.found x.result.ahead x.ensures in
    elim c.if-in_pages.branch [
      | then-in_pages+else-pages-test w ↦
          blocks_next i lt w.total-is (pages-behind w.pages.invariant w.pages-test.false) e.1
      | then-in_pages+then-pages-test+in_ok-pos+in-Some-3+in_ok-total+then-count-from w ↦
          let y = w.enter_page_in_turn-turn in
          let d = page_found w.pages.invariant w.pages-test.true w.unwrap.ensures y.result.found y.result.ahead y.ensures in
          blocks_next i lt w.total-is
          (page_last w.pages.invariant w.pages-test.true (subst (EnteredPage _ _ _ _) (w.in_ok-pos.was ∙ ap Ok w.in-Some-3.is) d.0) (λ g k z. sym w.in_ok-total.was ∙ w.count_elements.ensures g k z) w.if-count-from.true) e.1
      | else-in_pages+in_ok-total-2 w ↦
          blocks_next i lt w.total-is
          (unpaged_behind i lt (opens (goal.at.blocks-2-preserved c).Joined-u-directs) (subst (EnteredBlock _ _ _) (c.in_ok-at.was ∙ ap Ok c.in-Some-2.is) e.0)
          (sym c.in_pages.ensures ∙ w.if-in_pages.false) w.block_element_at.ensures (λ g k z. sym w.in_ok-total-2.was ∙ w.count_elements-else-in_pages.ensures g k z)) e.1
    ]

pub supers-preserved : goal.supers-preserved
supers-preserved c = supers_next c.blocks-2.invariant c.blocks-2-test.false

-- the walk is done: behind the last super block, or where the count ends
pub returns-after-supers : goal.returns-after-supers
returns-after-supers c = supers_ends c.supers.invariant c.supers-test.false

pub returns-then-count-slot : goal.returns-then-count-slot
returns-then-count-slot c = count_ends c.supers.invariant c.if-count-slot.true

pub returns-then-count-slot-2 : goal.returns-then-count-slot-2
returns-then-count-slot-2 c =
    direct_ends c.blocks-2.invariant c.blocks-2-test.true c.if-u-directs.true c.if-count-slot-2.true

-- what a row of data blocks, or of pages, keeps to
pub invariant_of-row : goal.invariant_of-row
invariant_of-row c =
    let i = c.blocks-2.invariant in
    record { below = super_here i; direct = row_direct i; inside = row_inside i }

pub invariant_of-page_row : goal.invariant_of-page_row
invariant_of-page_row c =
    let i = c.blocks-2.invariant in
    let lt = c.blocks-2-test.true in
    let x = c.enter_block_in_turn-turn in
    let e = block_found i lt x.result.found x.result.ahead x.ensures in
    let q = sym c.in_pages.ensures ∙ c.if-in_pages.true in
    record {
      super_below = super_here i;
      below = block_there_lem i lt;
      paged = q;
      inside = (row_inside i _ c.unwrap.ensures).1;
      begins = pages_inside i lt (opens (goal.at.invariant_of-page_row c).Joined-u-directs) (subst (EnteredBlock _ _ _) (c.in_ok-at.was ∙ ap Ok c.in-Some-2.is) e.0) q;
    }

-- a data block that is read by pages is named by its super block
pub unwrap-requires : goal.unwrap-requires
unwrap-requires c = paged_super c.blocks-2.invariant (sym c.in_pages.ensures ∙ c.if-in_pages.true)
