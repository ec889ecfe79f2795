-- `chunk_slots::is_below` meets its contract. Assumes nothing.
use Rattle.std.proofs.Common.{ltb, rules, tests}
use Rattle.std.proofs.lemmas.Iterator.{YieldsList-from_slice, YieldsList-from_zip, cases_from_all}
use Rattle.chunk_grid.specs.Grid.{below}
use Rattle.chunk_slots.proofs.Every.{Passes, Fails, every_by}
use Rattle.chunk_slots.proofs.is_below.Goals as goal

pub returns : goal.returns
unfolding below
returns c =
    every_by ltb _ _ _ c.requires
    (cases_from_all c.all.new.self _ _ (Passes ltb) (Fails ltb) c.all.ensures.ran (YieldsList-from_zip (YieldsList-from_slice c.args.corner.now cc) (YieldsList-from_slice c.args.extents.now cc)) (λ x q k. search (rules, tests)) (λ x q k. search (rules, tests)))
