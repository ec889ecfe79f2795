-- `chunk_slots::is_aligned` meets its contract. Assumes nothing.
use Rattle.std.proofs.Common.{ℕ, ◌%◌, Bool, eqb, rules, tests}
use Rattle.std.proofs.lemmas.Iterator.{YieldsList-from_slice, YieldsList-from_zip, cases_from_all}
use Rattle.chunk_grid.specs.Grid.{aligned}
use Rattle.chunk_slots.proofs.Every.{Passes, Fails, every_by}
use Rattle.chunk_slots.proofs.is_aligned.Goals as goal

-- a multiple
abbrev multiple : ℕ → ℕ → Bool
multiple o c = eqb (o % c) 0

pub returns : goal.returns
unfolding aligned
returns c =
    every_by multiple _ _ _ c.requires
    (cases_from_all c.all.new.self _ _ (Passes multiple) (Fails multiple) c.all.ensures.ran (YieldsList-from_zip (YieldsList-from_slice c.args.corner.now cc) (YieldsList-from_slice c.args.chunk.now cc)) (λ x q k. search (rules, tests)) (λ x q k. search (rules, tests)))
