-- `shapes::grid_from_bytes` meets its contract. Assumes nothing.
use mathlib.Core.Path.{◌≡◌, refl}
use native.Mathlib.Omega.{arith}
use lib.Dec.{lit≤}
use Rattle.std.specs.Option.{option_copied, option_map}
use Rattle.chunk_grid.proofs.Building.{rank_over}
use Rattle.chunk_grid.proofs.Numbered.{refused_shapes, built_refused}
use Rattle.shapes.specs.Shapes.{shape_of}
use Rattle.shapes.proofs.Shapes.{BeginsWith, shape_small, stored_shape}
use Rattle.shapes.proofs.grid_from_bytes.Goals.{After-read_shape-n, After-read_shape-p, Joined-maximum, in-Some, in-None}
use Rattle.shapes.proofs.grid_from_bytes.Goals as goal

-- each shape is at the beginning of its array
chunk_read : (c : After-read_shape-n) → BeginsWith c.args.rank c.args.chunk.now c.read_shape-n.new.shape c.read_shape-n.result
chunk_read c = stored_shape _ _ _ _ _ c.if-rank-gt32.false (lit≤ tt) c.read_shape-n.ensures.0 c.read_shape-n.ensures.1

present_read : (c : After-read_shape-p) → BeginsWith c.args.rank c.args.present.now c.read_shape-p.new.shape c.read_shape-p.result
present_read c = stored_shape _ _ _ _ _ c.if-rank-gt32.false (lit≤ tt) c.read_shape-p.ensures.0 c.read_shape-p.ensures.1

maximum_read : (c : Joined-maximum) → option_copied c.match-maximum.maximum ≡ option_map (shape_of c.args.rank) (option_copied c.args.maximum)
maximum_read c =
    elim c.match-maximum.branch [
      | in-Some w ↦ (
          let s = stored_shape _ _ _ _ _ c.if-rank-gt32.false (lit≤ tt) w.read_shape-m.ensures.0 w.read_shape-m.ensures.1 in
          rw (w.maximum-is, w.in-Some.is, s.1) refl
          )
      | in-None w ↦ rw (w.maximum-is, w.in-None.is) refl
    ]

pub returns-then-rank-gt32 : goal.returns-then-rank-gt32
returns-then-rank-gt32 c = built_refused _ _ (refused_shapes _ _ (rank_over _ _ _ _ _ _ c.if-rank-gt32.true))

pub shared_ref_as_front-maximum : goal.shared_ref_as_front-maximum
shared_ref_as_front-maximum c = omega (arith, shape_small c.args.rank c.in-Some.bytes.now c.if-rank-gt32.false, c.read_shape-m.ensures.0)

pub returns : goal.returns
returns c =
    let before = goal.at.returns c in
    rw ((chunk_read before.After-read_shape-n).1, (present_read before.After-read_shape-p).1, maximum_read before.Joined-maximum) at c.new.ensures

pub slice_bounds-lengths-end : goal.slice_bounds-lengths-end
slice_bounds-lengths-end c = (chunk_read (goal.at.slice_bounds-lengths-end c).After-read_shape-n).0

pub slice_bounds-new-end : goal.slice_bounds-new-end
slice_bounds-new-end c = (chunk_read (goal.at.slice_bounds-new-end c).After-read_shape-n).2

pub slice_bounds-extents-end : goal.slice_bounds-extents-end
slice_bounds-extents-end c = (present_read (goal.at.slice_bounds-extents-end c).After-read_shape-p).0

pub slice_bounds-new-end-2 : goal.slice_bounds-new-end-2
slice_bounds-new-end-2 c = (present_read (goal.at.slice_bounds-new-end-2 c).After-read_shape-p).2
