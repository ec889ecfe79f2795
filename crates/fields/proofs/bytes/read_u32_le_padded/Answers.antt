-- `fields::bytes::read_u32_le_padded` meets its contract. Assumes nothing.
use mathlib.Core.Path.{◌∙◌}
use Prim.Native.Nat.{◌-◌, ◌*◌, ◌^◌, ◌≤◌}
use native.Mathlib.Omega.{arith}
use lib.ListN.{length}
use lib.Pow.{pow_mono}
use Rattle.fields.proofs.LittleEndian.{le_past, le_short}
use Rattle.fields.proofs.bytes.read_u32_le_padded.Goals as goal

pub returns-then-s-pos : goal.returns-then-s-pos
returns-then-s-pos c = le_past c.args.s.now c.args.pos 4 c.if-s-pos.true

pub overflow_cast-result : goal.overflow_cast-result
overflow_cast-result c =
    let a = c.args in
    let m : 2 ^ (8 * (length a.s.now - a.pos)) ≤ 2 ^ 24 = pow_mono {j = 24} (omega arith) in
    omega (arith, c.read_le_bytes.ensures.1)

pub returns-else-left-ge4 : goal.returns-else-left-ge4
returns-else-left-ge4 c =
    let a = c.args in
    c.read_le_bytes.ensures.0 ∙ le_short a.s.now a.pos (length a.s.now - a.pos) 4 (omega arith) (omega arith)
