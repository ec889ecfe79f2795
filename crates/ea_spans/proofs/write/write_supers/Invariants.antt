-- `ea_spans::write::write_supers` meets its contract: what is left from super block u on gives the lists. Assumes nothing.
use Prim.Native.Nat.{◌-◌}
use Rattle.ea_blocks.specs.Values.{array_in}
use Rattle.span_walk.specs.Walk.{supers_from}
use Rattle.ea_spans.proofs.Writing.{Going}
use Rattle.ea_spans.proofs.write.write_supers.Given as goal

abbrev pub invariant-loop-u : goal.invariant-loop-u
invariant-loop-u l =
    let left = supers_from (array_in l.array.array) in
    Going (left l.supers 0) l.initial.lists (left (l.supers - l.u) l.u) l.lists
