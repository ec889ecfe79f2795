-- `records::put_offsets` meets its contract: what is left of the offsets goes behind those that are stored. Assumes
-- nothing.
use Prim.Native.Nat.{◌+◌, ◌*◌}
use mathlib.Core.Path.{◌≡◌}
use lib.ListN.{length, drop, set}
use lib.Seq.{sets}
use Rattle.records.specs.Records.{offset_bytes}
use Rattle.records.proofs.put_offsets.Given as goal

abbrev pub invariant-loop-i : goal.invariant-loop-i
invariant-loop-i l = (length l.out ≡ length l.initial.out)
    × (sets l.out (l.at + 8 * l.i) (offset_bytes (drop l.i (set l.offsets l.dim l.offset))) ≡ sets l.initial.out l.at (offset_bytes (set l.offsets l.dim l.offset)))
