-- `fields::bytes::put_le` meets its contract: what is left of the number goes behind the bytes that are stored.
-- Assumes nothing.
use mathlib.Core.Path.{◌≡◌}
use Prim.Native.Nat.{◌-◌}
use lib.ListN.{length}
use lib.Seq.{sets}
use Rattle.fields.specs.LittleEndian.{le_bytes}
use Rattle.fields.proofs.bytes.put_le.Given as goal

abbrev pub invariant-loop-byte : goal.invariant-loop-byte
invariant-loop-byte l = (length l.byte-items ≡ l.width) × (sets l.byte-items l.byte-index (le_bytes (l.width - l.byte-index) l.rest) ≡ le_bytes l.width l.value)
