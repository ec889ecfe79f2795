-- `chunk_slots::offsets_in_extent` meets its contract: the loop turns as `Turn` says. Assumes nothing.
use Prim.Native.Nat.{◌≤◌}
use Rattle.chunk_slots.proofs.Extents.{Turn}
use Rattle.chunk_slots.proofs.offsets_in_extent.Given as goal

abbrev pub invariant-loop-i : goal.invariant-loop-i
invariant-loop-i l = (l.rank ≤ 32) × Turn l.slot l.rank l.rotated l.numbering.grid.now.chunk l.numbering.bound l.numbering.down l.initial.offsets l.offsets l.rest l.inside l.over l.i
