-- `fields::bytes::read_le_bytes` meets its contract: after each turn v is the number in the bytes behind those that are
-- left. Assumes nothing.
use mathlib.Core.Path.{◌≡◌}
use Prim.Native.Nat.{◌+◌, ◌-◌}
use native.Mathlib.Omega.{arith}
use lib.ListN.{length, take, drop}
use Rattle.fields.proofs.LittleEndian.{grown, whole_left, last_left, byte_room, all_read}
use Rattle.fields.proofs.bytes.read_le_bytes.Goals as goal

pub loop-byte-init : goal.loop-byte-init
loop-byte-init c =
    let a = c.args in
    let r = c.into_iter-byte-iterator.result.iter.rest.now in
    let e : r ≡ take (a.pos + a.width - a.pos) (drop a.pos a.s.now) = cc in
    whole_left a.s.now r a.pos a.width c.requires.0 e

pub overflow_mul-v : goal.overflow_mul-v
overflow_mul-v c =
    let l = c.loop-byte in
    let r = l.byte-iterator.iter.rest.now in
    let x = last_left c.args.s.now r _ c.args.pos _ l.invariant.1 c.in-Some.ensures.steps in
    omega (arith, byte_room c.args.width (length r) l.v c.requires.1 (omega arith) l.invariant.3)

pub overflow_add-v : goal.overflow_add-v
overflow_add-v c =
    let l = c.loop-byte in
    let r = l.byte-iterator.iter.rest.now in
    let q = c.next.new.self.iter.rest.now in
    let x = last_left c.args.s.now r q c.args.pos _ l.invariant.1 c.in-Some.ensures.steps in
    omega (arith, byte_room c.args.width (length r) l.v c.requires.1 (omega arith) l.invariant.3, c.type_inv.s (c.args.pos + length q), x, c.from.ensures)

pub loop-byte-preserved : goal.loop-byte-preserved
loop-byte-preserved c =
    let a = c.args in
    let l = c.loop-byte in
    let r = l.byte-iterator.iter.rest.now in
    let q = c.next.new.self.iter.rest.now in
    let x = last_left a.s.now r q a.pos _ l.invariant.1 c.in-Some.ensures.steps in
    let g = grown a.s.now a.pos a.width (length q) l.v c.requires.0 (omega arith) (rw x.0 at l.invariant.2) (rw x.0 at l.invariant.3) (omega (arith, c.type_inv.s (a.pos + length q))) in
    rw (c.from.ensures, x.2) (omega arith, x.1, g.0, g.1)

pub returns : goal.returns
returns c =
    let a = c.args in
    let l = c.loop-byte in
    let r = l.byte-iterator.iter.rest.now in
    all_read a.s.now a.pos a.width (length r) l.v (omega (arith, c.in-None.ensures.steps)) l.invariant.2 l.invariant.3
