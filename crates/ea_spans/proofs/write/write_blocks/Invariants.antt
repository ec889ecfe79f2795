-- `ea_spans::write::write_blocks` meets its contract: what is left from data block k on gives the lists. Assumes nothing.
use Prim.Native.Nat.{◌-◌}
use Rattle.std.specs.Prelude.{Ok}
use Rattle.ea_blocks.specs.Values.{array_in}
use Rattle.span_walk.specs.Walk.{block_spans}
use Rattle.ea_spans.proofs.Writing.{Going}
use Rattle.ea_spans.proofs.write.write_blocks.Given as goal

abbrev pub invariant-loop-k : goal.invariant-loop-k
invariant-loop-k l =
    let left = block_spans (array_in l.row.array.array) l.row.u in
    Going (Ok (left l.blocks 0)) l.initial.lists (Ok (left (l.blocks - l.k) l.k)) l.lists
