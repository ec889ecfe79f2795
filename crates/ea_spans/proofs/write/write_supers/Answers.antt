-- `ea_spans::write::write_supers` meets its contract. Assumes nothing.
use Prim.Native.Nat.{◌+◌, ◌-◌}
use native.Mathlib.Omega.{arith}
use Rattle.ea_blocks.specs.Values.{array_in}
use Rattle.span_walk.specs.Walk.{joined, super_spans, supers_from}
use Rattle.span_walk.proofs.Turns.{supers_none, supers_next}
use Rattle.ea_spans.proofs.Writing.{Going, going_as, going_none, going_room, going_behind}
use Rattle.ea_spans.proofs.write.write_supers.Goals.{In-loop-u}
use Rattle.ea_spans.proofs.write.write_supers.Goals as goal

-- super block u comes next
next : (c : In-loop-u)
    → let a = array_in c.args.array.array in
    let supers = c.super_blocks-supers.result in
    Going (supers_from a supers 0) c.args.lists.now
    (joined (super_spans a c.loop-u.u) (supers_from a (supers - (c.loop-u.u + 1)) (c.loop-u.u + 1))) c.loop-u.lists
next c = going_as (supers_next _ _ _ (omega arith)) c.loop-u.invariant

pub write_super-requires : goal.write_super-requires
write_super-requires c =
    let e = c.super_blocks-supers.ensures in
    (omega arith, going_room _ _ (next (goal.at.write_super-requires c).In-loop-u))

pub loop-u-preserved : goal.loop-u-preserved
loop-u-preserved c = going_behind _ _ (next (goal.at.loop-u-preserved c).In-loop-u) c.write_super.ensures

pub returns : goal.returns
returns c =
    rw (← c.super_blocks-supers.ensures) (going_none (going_as (supers_none _ _ _ (omega arith)) c.loop-u.invariant))
