-- `chunk_slots::line_from` meets its contract: the loop turns as `Lining` says. Assumes nothing.
use Prim.Native.Nat.{◌≤◌}
use Rattle.chunk_slots.proofs.Lines.{Lining}
use Rattle.chunk_slots.proofs.line_from.Given as goal

abbrev pub invariant-loop-i : goal.invariant-loop-i
invariant-loop-i l = (l.rank ≤ 32) × Lining l.slot l.rank l.numbering.down l.slots l.rest l.i
