-- `walked_index::call::lookup_at` meets its contract. Assumes nothing.
use Prim.Native.Nat.{◌≤◌}
use mathlib.Core.Path.{◌≡◌, sym, ◌∙◌}
use lib.Dec.{lit≤}
use Rattle.std.proofs.Common.{rules}
use Rattle.std.specs.Prelude.{Err}
use Rattle.refusal.proofs.Outcomes.{value_is}
use Rattle.chunk_grid.specs.Grid.{given as grid_as}
use Rattle.chunk_grid.proofs.Grids.{accepted}
use Rattle.shapes.proofs.Shapes.{BeginsWith, stored_shape}
use Rattle.calls.specs.Call.{grid_given}
use Rattle.walked_index.proofs.Calls.{grid_read, header_refused, grid_refused, called_refused, called_passed}
use Rattle.walked_index.proofs.call.lookup_at.Given as given
use Rattle.walked_index.proofs.call.lookup_at.Goals.{After-read_shape-n, In_ok-grid}
use Rattle.walked_index.proofs.call.lookup_at.Goals as goal

pub returns-in_err-headed : goal.returns-in_err-headed
returns-in_err-headed g c =
    let i = g.I.WalkedIndex in
    let r : c.from_residual.result ≡ Err c.in_err-headed.field-0.0 = search rules in
    called_refused i.form i.count i.entry i.walk i.located c.args.call.now.file.now c.args.call.now.element_bytes _ _ _ _ _ _ r
    (header_refused _ _ _ c.read.ensures c.in_err-headed.was)

pub returns-in_err-grid : goal.returns-in_err-grid
returns-in_err-grid g c =
    let i = g.I.WalkedIndex in
    let r : c.from_residual-in_err-grid.result ≡ Err c.in_err-grid.field-0.0 = search rules in
    called_refused i.form i.count i.entry i.walk i.located c.args.call.now.file.now c.args.call.now.element_bytes _ _ _ _ _ _ r
    (grid_refused _ _ _ c.read.ensures c.in_ok-headed.was c.in_err-grid.was c.read_grid.ensures)

small : (g : given.Over) (c : In_ok-grid g) → c.args.call.now.rank ≤ 32
unfolding grid_given grid_as
small g c = (accepted _ (grid_read _ c.in_ok-grid.was c.read_grid.ensures).0).small

pub read_shape-n-requires : goal.read_shape-n-requires
read_shape-n-requires g c = (small g (goal.at.read_shape-n-requires g c).In_ok-grid, lit≤ tt)

-- the corner, as it is read again
shape : (g : given.Over) (c : After-read_shape-n g)
    → let a = c.args in
    BeginsWith a.call.now.rank a.corner.now c.read_shape-n.new.shape c.read_shape-n.result
shape g c = stored_shape _ _ _ _ _ (small g (goal.at.After-read_shape-n g c).In_ok-grid) (lit≤ tt) c.read_shape-n.ensures.0 c.read_shape-n.ensures.1

pub returns : goal.returns
returns g c =
    let i = g.I.WalkedIndex in
    let h = value_is _ _ _ (sym c.in_ok-headed.was ∙ c.read.ensures) in
    let k = grid_read _ c.in_ok-grid.was c.read_grid.ensures in
    called_passed i.form i.count i.entry i.walk i.located c.args.call.now.file.now c.args.call.now.element_bytes _ _ _ (sym h.0) h.1 k.1 _ _
    (shape g (goal.at.returns g c).After-read_shape-n).1 _ c.lookup_chunk.ensures

pub slice_bounds-offsets-end : goal.slice_bounds-offsets-end
slice_bounds-offsets-end g c = (shape g (goal.at.slice_bounds-offsets-end g c).After-read_shape-n).0

pub slice_bounds-lookup_chunk-end : goal.slice_bounds-lookup_chunk-end
slice_bounds-lookup_chunk-end g c = (shape g (goal.at.slice_bounds-lookup_chunk-end g c).After-read_shape-n).2
