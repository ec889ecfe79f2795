-- `cellumaq::cellumaq_lookup` meets its contract. Assumes nothing.
use Rattle.chunk_grid.specs.Grid.{given}
use Rattle.calls.specs.Call.{grid_given}
use Rattle.calls.proofs.Answers.{found_picked, zero_accepts}
use Rattle.cellumaq.proofs.cellumaq_lookup.Goals as goal

pub returns : goal.returns
unfolding grid_given given
returns c =
    let e = c.lookup_at-found.ensures in
    let number = found_picked _ _ _ _ c.found_number.ensures e.0 in (
      number,
      zero_accepts _ _ _ _ _ number,
      λ x h. (e.1 x h).1,
      λ room l ranked h k. let d = e.2 room l ranked h k in (d.0, found_picked _ _ _ _ c.found_number.ensures d.1, d.2),
    )
