-- `shapes::read_shape` meets its contract: the numbers that are left go behind those that are stored. Assumes nothing.
use Prim.Native.Nat.{◌<◌}
use mathlib.Core.Path.{refl, sym, ◌∙◌}
use native.Mathlib.Omega.{arith}
use lib.ListN.{length-set}
use lib.Seq.{length-take-le}
use Rattle.fields.proofs.Stored.{stored_over}
use Rattle.shapes.specs.Shapes.{numbers_in}
use Rattle.shapes.proofs.Shapes.{length_numbers, number_at, shape_is, shape_none, shape_one, stored_on, stored_end, stored_front}
use Rattle.shapes.proofs.read_shape.Goals as goal

pub returns-then-n-eq0 : goal.returns-then-n-eq0
returns-then-n-eq0 c =
    let s = c.args in
    let e = shape_one s.rank s.bytes.now c.if-bytes-n.true c.if-n-eq0.true in
    (rw e refl, rw e refl)

pub returns-then-bytes-n : goal.returns-then-bytes-n
returns-then-bytes-n c =
    let s = c.args in
    let e = shape_none s.rank s.bytes.now c.if-bytes-n.true c.if-n-eq0.false in
    (rw e refl, rw e refl)

pub loop-i-init : goal.loop-i-init
loop-i-init c =
    let s = c.args in
    let e = length-take-le s.rank s.shape.now (omega arith) in
    (e, stored_over _ (numbers_in s.rank s.bytes.now) (e ∙ sym (length_numbers s.rank s.bytes.now)))

pub loop-i-preserved : goal.loop-i-preserved
loop-i-preserved c =
    let l = c.loop-i in
    let s = c.args in
    let vs = numbers_in s.rank s.bytes.now in
    let h : l.i < s.rank = omega (arith, l.invariant.0, c.loop-i-test.true) in
    (length-set l.number-items l.i _ ∙ l.invariant.0, stored_on vs l.number-items l.i _ (omega (arith, length_numbers s.rank s.bytes.now)) (c.read_u64_le.ensures ∙ sym (number_at s.rank s.bytes.now l.i h)) ∙ l.invariant.1)

pub returns : goal.returns
returns c =
    let l = c.loop-i in
    let s = c.args in
    let vs = numbers_in s.rank s.bytes.now in
    let e = shape_is s.rank s.bytes.now c.if-bytes-n.false in
    let n = length_numbers s.rank s.bytes.now in
    (rw e (sym n), rw (e, stored_end vs l.number-items l.i (omega (arith, l.invariant.0)) ∙ l.invariant.1) (stored_front vs s.shape.now s.rank n (omega arith)))
