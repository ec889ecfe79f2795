-- `walked_index::call::list_at` meets its contract. Assumes nothing.
use mathlib.Core.Path.{◌≡◌, refl, sym, ◌∙◌}
use Rattle.std.proofs.Common.{rules}
use Rattle.std.specs.Prelude.{Err}
use Rattle.refusal.proofs.Outcomes.{value_is}
use Rattle.chunk_grid.specs.Grid.{given as grid_as}
use Rattle.chunk_grid.specs.Values.{grid_of}
use Rattle.calls.specs.Call.{grid_given}
use Rattle.walked_index.proofs.Calls.{grid_read, header_refused, grid_refused, listed_refused, listed_passed}
use Rattle.walked_index.proofs.call.list_at.Goals as goal

pub returns-in-Err : goal.returns-in-Err
unfolding grid_given grid_as
returns-in-Err g c =
    let i = g.I.WalkedIndex in
    listed_refused i.form i.count i.entry i.walk i.located c.args.call.now.file.now c.args.call.now.element_bytes _ _ _ c.args.list.now _ _ refl
    (header_refused _ _ _ c.read.ensures c.in-Err.is)

pub returns-in_err-grid : goal.returns-in_err-grid
unfolding grid_given grid_as
returns-in_err-grid g c =
    let i = g.I.WalkedIndex in
    let r : c.from_residual.result ≡ Err c.in_err-grid.field-0.0 = search rules in
    listed_refused i.form i.count i.entry i.walk i.located c.args.call.now.file.now c.args.call.now.element_bytes _ _ _ c.args.list.now _ _ r
    (grid_refused _ _ _ c.read.ensures c.in-Ok.is c.in_err-grid.was c.read_grid.ensures)

pub returns : goal.returns
unfolding grid_given grid_as grid_of
returns g c =
    let i = g.I.WalkedIndex in
    let h = value_is _ _ _ (sym c.in-Ok.is ∙ c.read.ensures) in
    let k = grid_read _ c.in_ok-grid.was c.read_grid.ensures in
    listed_passed i.form i.count i.entry i.walk i.located c.args.call.now.file.now c.args.call.now.element_bytes _ _ _ (sym h.0) h.1 k.1 c.args.list.now _ _
    c.list_chunks.ensures
