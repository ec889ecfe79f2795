-- `calls::Call::read_grid` meets its contract. Assumes nothing.
use mathlib.Core.Path.{ap, ◌∙◌}
use Rattle.chunk_grid.specs.Values.{built}
use Rattle.shapes.proofs.Shapes.{where_given}
use Rattle.calls.specs.Call.{grid_given}
use Rattle.calls.proofs.Call.read_grid.Goals as goal

pub returns : goal.returns
unfolding grid_given
returns c =
    let h = rw (c.then_some-maximum.ensures, c.grid_order-order.ensures) at c.grid_from_bytes.ensures in
    h ∙ ap built (where_given _ _ _ _ _ _)
