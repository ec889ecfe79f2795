-- `chunk_slots::corner_test` meets its contract. Assumes nothing.
use mathlib.Core.Path.{sym, ◌∙◌}
use Rattle.chunk_grid.specs.Grid.{given}
use Rattle.chunk_grid.specs.Values.{grid_of}
use Rattle.chunk_slots.proofs.Corners.{other_rank_lem, corner_small, unaligned_here, outside_here, passes}
use Rattle.chunk_slots.proofs.corner_test.Goals.{else-is_aligned-via-then-is_aligned+else-is_below, else-is_aligned-via-else-is_aligned}
use Rattle.chunk_slots.proofs.corner_test.Goals as goal

pub returns-then-n-grid : goal.returns-then-n-grid
unfolding grid_of given
returns-then-n-grid c = other_rank_lem _ _ c.if-n-grid.true

pub shared_ref_as_front-is_aligned : goal.shared_ref_as_front-is_aligned
shared_ref_as_front-is_aligned c = corner_small _ _ c.if-n-grid.false c.requires

pub returns-then-is_below : goal.returns-then-is_below
returns-then-is_below c =
    passes _ _ c.if-n-grid.false (sym c.is_aligned.ensures ∙ c.if-is_aligned.true) (sym c.is_below.ensures ∙ c.if-is_below.true)

pub returns-else-is_aligned : goal.returns-else-is_aligned
returns-else-is_aligned c =
    elim c.else-is_aligned.branch [
      | else-is_aligned-via-then-is_aligned+else-is_below w ↦ outside_here _ _ c.if-n-grid.false (sym w.is_below.ensures ∙ w.if-is_below.false)
      | else-is_aligned-via-else-is_aligned w ↦ unaligned_here _ _ c.if-n-grid.false (sym c.is_aligned.ensures ∙ w.if-is_aligned.false)
    ]
