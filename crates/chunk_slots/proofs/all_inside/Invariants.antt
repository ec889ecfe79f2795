-- `chunk_slots::all_inside` meets its contract: what is left to ask from place i on gives the answer. Assumes nothing.
use Prim.Native.Nat.{◌≤◌}
use Rattle.chunk_slots.proofs.AllInside.{Asking}
use Rattle.chunk_slots.proofs.all_inside.Given as goal

abbrev pub invariant-loop-i : goal.invariant-loop-i
invariant-loop-i l = (l.rank ≤ 32) × Asking l.n l.rank l.rotated l.numbering.bound l.numbering.down l.rests l.i
