-- `chunk_grid::number` meets its contract. Assumes nothing.
use mathlib.Core.Path.{◌≡◌, sym, ap, ◌∙◌}
use lib.ListN.{length}
use Rattle.chunk_grid.proofs.Order.{length-pairwise}
use Rattle.chunk_grid.proofs.Building.{rounded_up}
use Rattle.chunk_grid.proofs.Grids.{leading_le}
use Rattle.chunk_grid.proofs.Numbered.{no_zero, multipliers_pass, made}
use Rattle.chunk_grid.specs.Grid.{pairwise, ceil_div, count_of}
use Rattle.chunk_grid.proofs.number.Goals.{After-pairwise_into, After-pairwise_into-2}
use Rattle.chunk_grid.proofs.number.Goals as goal

counted : (c : After-pairwise_into) → c.pairwise_into.new.out ≡ pairwise count_of c.args.limits.now c.args.chunk.now
counted c = c.pairwise_into.ensures count_of (λ a b r pos e. e)

reached : (c : After-pairwise_into-2) → c.pairwise_into-2.new.out ≡ pairwise ceil_div c.args.present.now c.args.chunk.now
reached c = c.pairwise_into-2.ensures ceil_div (λ a b r pos e. e ∙ rounded_up a b pos)

pub pairwise_into-requires : goal.pairwise_into-requires
pairwise_into-requires c =
    let p = c.requires in
    (p.0, p.3, no_zero _ _ _ p.5, λ a b pos. pos)

pub pairwise_into-requires-2 : goal.pairwise_into-requires-2
pairwise_into-requires-2 c =
    let p = c.requires in
    (p.1, p.4, no_zero _ _ _ p.5, λ a b pos. pos)

pub multipliers_of-numbers-requires : goal.multipliers_of-numbers-requires
multipliers_of-numbers-requires c =
    let l = c.leading-rotated.ensures in
    let n = counted (goal.at.multipliers_of-numbers-requires c).After-pairwise_into in
    let p = c.requires in
    (p.2 ∙ sym (ap length n ∙ length-pairwise _ _ _ p.3 ∙ p.3), rw l (leading_le _ _), multipliers_pass _ _ _ p.5 _ _ n l)

pub returns : goal.returns
returns c =
    made _ _ _ _ _ _ _ _ _ (counted (goal.at.returns c).After-pairwise_into) (reached (goal.at.returns c).After-pairwise_into-2) c.leading-rotated.ensures c.multipliers_of-numbers.ensures
