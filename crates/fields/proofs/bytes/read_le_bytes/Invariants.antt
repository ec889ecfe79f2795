-- `fields::bytes::read_le_bytes` meets its contract: after each turn v is the number in the bytes behind those that are
-- left. Assumes nothing.
use mathlib.Core.Path.{◌≡◌}
use Prim.Native.Nat.{◌+◌, ◌-◌, ◌*◌, ◌^◌, ◌≤◌, ◌<◌}
use lib.ListN.{length, take, drop}
use Rattle.fields.specs.LittleEndian.{le_at}
use Rattle.fields.proofs.bytes.read_le_bytes.Given as goal

abbrev pub invariant-loop-byte : goal.invariant-loop-byte
invariant-loop-byte l =
    let r = l.byte-iterator.iter.rest.now in
    (length r ≤ l.width) × (r ≡ take (length r) (drop l.pos l.s)) × (l.v ≡ le_at l.s (l.pos + length r) (l.width - length r)) × (l.v < 2 ^ (8 * (l.width - length r)))
