-- `ea_count::count_blocks` meets its contract. The invariant of each of its three loops: at super block u, at its
-- data block k, and at page p of that, the records that are counted and what the walk gives from there on are the
-- whole (`Invariants`). A refusal, or the count's end, leaves all three loops with the whole's answer. Assumes nothing.
use Rattle.ea_count.proofs.Invariants.{InSupers, InBlocks, InPages}
use Rattle.ea_count.proofs.count_blocks.Given as goal

abbrev pub invariant-pages : goal.invariant-pages
invariant-pages l = InPages (record { array = l.array.array; reader = l.reader; first = l.first; begin = l.begin; end = l.end; count = l.count; directs = l.directs; page = l.page }) l.u l.blocks l.elements l.super_at l.k l.at l.pages l.slot l.total l.from l.page_ahead l.p

abbrev pub invariant-blocks-2 : goal.invariant-blocks-2
invariant-blocks-2 l = InBlocks (record { array = l.array.array; reader = l.reader; first = l.first; begin = l.begin; end = l.end; count = l.count; directs = l.directs; page = l.page }) l.u l.blocks l.elements l.super_at l.total l.slot l.block_ahead l.k

abbrev pub invariant-supers : goal.invariant-supers
invariant-supers l = InSupers (record { array = l.array.array; reader = l.reader; first = l.first; begin = l.begin; end = l.end; count = l.count; directs = l.directs; page = l.page }) l.total l.slot l.u
