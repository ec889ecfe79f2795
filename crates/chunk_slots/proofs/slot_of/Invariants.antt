-- `chunk_slots::slot_of` meets its contract: what is left from place i on, from the sum so far, gives the slot.
-- Assumes nothing.
use Prim.Native.Nat.{◌≤◌}
use mathlib.Core.Path.{◌≡◌}
use lib.ListN.{length, take}
use Rattle.refusal.specs.Refusals.{largest64}
use Rattle.chunk_grid.specs.Grid.{Grid}
use Rattle.chunk_grid.specs.Numberings.{NumbersOf, CountsOf}
use Rattle.chunk_grid.proofs.Places.{in_order}
use Rattle.chunk_slots.proofs.Corners.{onward, corner_quotients}
use Rattle.chunk_slots.proofs.slot_of.Given as goal

abbrev pub invariant-loop-i : goal.invariant-loop-i
invariant-loop-i l = (length l.corner ≤ 32) × (l.slot ≤ largest64) × ((g : Grid) → NumbersOf l.numbering g → CountsOf l.numbering g → onward (corner_quotients l.rotated l.corner l.numbering.grid.now.chunk) (in_order (length l.corner) l.rotated l.numbering.counts) (take (length l.corner) l.numbering.down) l.i l.slot ≡ onward (corner_quotients l.rotated l.corner l.numbering.grid.now.chunk) (in_order (length l.corner) l.rotated l.numbering.counts) (take (length l.corner) l.numbering.down) 0 0)
