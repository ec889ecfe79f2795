-- `chunk_grid::leading` meets its contract: what `position` finds is where the first unlimited count stands. Assumes
-- nothing.
use Rattle.std.proofs.Common.{◌≡◌, ◌≢◌, rules, tests}
use Rattle.std.proofs.lemmas.Iterator.{IsFirst-from_position, YieldsList-from_slice}
use Rattle.chunk_grid.proofs.Building.{leads_found}
use Rattle.chunk_grid.specs.Grid.{leading_in, is_unlimited_first}
use Rattle.chunk_grid.proofs.leading.Goals as goal
use Rattle.refusal.specs.Refusals.{largest64}

pub returns-in-RowMajor : goal.returns-in-RowMajor
unfolding leading_in is_unlimited_first
returns-in-RowMajor c = rw c.in-RowMajor.is

pub returns-in-UnlimitedFirst : goal.returns-in-UnlimitedFirst
unfolding is_unlimited_first
returns-in-UnlimitedFirst c =
    let found =
    IsFirst-from_position _ _ c.position.result (λ x. x ≡ largest64) (λ x. x ≢ largest64) c.position.ensures.ran
    (YieldsList-from_slice _ c.iter.ensures.rest) (λ x q k. search (rules, tests)) (λ x q k. search (rules, tests)) in
    rw (c.in-UnlimitedFirst.is, c.unwrap_or.ensures) (leads_found _ _ found)
