-- `fa_index::count::count_pages` meets its contract: what is counted, and the walk from page p on, are the whole
-- (`Counting`). Assumes nothing.
use Rattle.fa_index.proofs.Counting.{InPages}
use Rattle.fa_index.proofs.count.count_pages.Given as goal

abbrev pub invariant-pages : goal.invariant-pages
invariant-pages l = InPages (record { block = l.block; reader = l.reader; pages = l.pages; page = l.page }) l.total l.ahead l.p
