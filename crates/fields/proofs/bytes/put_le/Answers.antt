-- `fields::bytes::put_le` meets its contract: what is left of the number goes behind the bytes that are stored.
-- Assumes nothing.
use mathlib.Core.Path.{◌∙◌}
use Prim.Native.Nat.{◌+◌, ◌-◌}
use native.Mathlib.Omega.{arith}
use native.Mathlib.Nat.{sub-zero}
use lib.ListN.{length-set, length-drop, drop}
use lib.Seq.{length-take-le}
use Rattle.fields.proofs.Stored.{length_bytes, byte_stored, all_stored, stored_over, part_stored}
use Rattle.fields.proofs.bytes.put_le.Goals as goal

pub loop-byte-init : goal.loop-byte-init
loop-byte-init c =
    let a = c.args in
    let e = length-take-le (a.pos + a.width - a.pos) (drop a.pos a.s.now) (rw length-drop (omega arith)) in
    (omega (arith, e), rw sub-zero (stored_over _ _ (omega (arith, e, length_bytes a.width a.value))))

pub loop-byte-preserved : goal.loop-byte-preserved
loop-byte-preserved c =
    let inv = c.loop-byte.invariant in
    (simp length-set inv.0, byte_stored _ _ _ _ (omega arith) ∙ inv.1)

pub returns : goal.returns
returns c =
    let a = c.args in
    let l = c.loop-byte in
    let e = all_stored l.byte-items a.width l.byte-index l.rest (omega arith) ∙ l.invariant.1 in
    rw e (part_stored a.s.now _ a.pos _ (omega arith) (omega (arith, length_bytes a.width a.value)))
