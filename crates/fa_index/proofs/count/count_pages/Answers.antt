-- `fa_index::count::count_pages` meets its contract: what is counted, and the walk from page p on, are the whole
-- (`Counting`). Assumes nothing.
use mathlib.Core.Path.{sym, ap, subst, ◌∙◌}
use native.Mathlib.Omega.{arith}
use Rattle.std.proofs.Common.{rules}
use Rattle.std.specs.Prelude.{Ok, Some}
use Rattle.fa_blocks.specs.Values.{fixed_in, EnteredFixedPage}
use Rattle.fa_index.proofs.Counting.{pages-first, pages_end, page_begins, page_clear, page_refused, page_run, run_ends, total-fits, page_counted}
use Rattle.fa_index.proofs.count.count_pages.Goals.{In-Some}
use Rattle.fa_index.proofs.count.count_pages.Goals as goal

pub pages-init : goal.pages-init
pages-init c =
    pages-first _
    (record {
      by = c.requires;
      pages_are = c.pages-pages.ensures;
      page_is = c.page_elements-page.ensures.0;
    })

-- the page is refused
pub returns-in_err-pos : goal.returns-in_err-pos
returns-in_err-pos c = λ grid n r.
    let i = c.pages.invariant in
    let e = c.enter_page_in_turn-turn.ensures i.ahead_is in
    let x = page_refused _ i c.pages-test.true _ (subst (EnteredFixedPage _ _) c.in_err-pos.was e.0) grid n r in
    search rules

-- its bit is clear
pub pages-preserved-in_default : goal.pages-preserved-in_default
pages-preserved-in_default c =
    let i = c.pages.invariant in
    let e = c.enter_page_in_turn-turn.ensures i.ahead_is in
    page_clear _ i c.pages-test.true (subst (EnteredFixedPage _ _) (c.in_ok-pos.was ∙ ap Ok c.in_default.is) e.0) e.1

-- it has passed its test
entered : (c : In-Some) → EnteredFixedPage (fixed_in c.args.block.array) c.pages.p (Ok (Some c.in-Some.pos))
entered c =
    subst (EnteredFixedPage _ _) (c.in_ok-pos.was ∙ ap Ok c.in-Some.is) (c.enter_page_in_turn-turn.ensures c.pages.invariant.ahead_is).0

pub overflow_mul-p : goal.overflow_mul-p
overflow_mul-p c = omega (arith, page_begins _ c.pages.invariant c.pages-test.true)

pub count_elements-requires : goal.count_elements-requires
count_elements-requires c =
    page_run _ c.pages.invariant c.pages-test.true (entered (goal.at.count_elements-requires c).In-Some) c.page_entries-entries.ensures.0

pub returns-in_err-total : goal.returns-in_err-total
returns-in_err-total c = λ grid n r.
    let x = run_ends _ c.pages.invariant c.pages-test.true (entered (goal.at.returns-in_err-total c).In-Some) c.page_entries-entries.ensures.0 _ (λ g m y. sym c.in_err-total.was ∙ c.count_elements.ensures g m y) grid n r in
    search rules

pub overflow_add-total : goal.overflow_add-total
overflow_add-total c =
    omega (
      arith,
      total-fits _ c.pages.invariant c.pages-test.true (entered (goal.at.overflow_add-total c).In-Some) c.page_entries-entries.ensures.0
          (λ g m y. sym c.in_ok-total.was ∙ c.count_elements.ensures g m y),
    )

pub pages-preserved : goal.pages-preserved
pages-preserved c =
    let i = c.pages.invariant in
    page_counted _ i c.pages-test.true (entered (goal.at.pages-preserved c).In-Some) c.page_entries-entries.ensures.0
    (λ g m y. sym c.in_ok-total.was ∙ c.count_elements.ensures g m y) (c.enter_page_in_turn-turn.ensures i.ahead_is).1

pub returns : goal.returns
returns c = pages_end _ c.pages.invariant c.pages-test.false
