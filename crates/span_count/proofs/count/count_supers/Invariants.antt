-- `span_count::count::count_supers` meets its contract: the super blocks before u are accepted and counted. Assumes
-- nothing.
use Rattle.ea_blocks.specs.Values.{array_in}
use Rattle.span_count.proofs.Counting.{AtSuper}
use Rattle.span_count.proofs.count.count_supers.Given as goal

abbrev pub invariant-loop-u : goal.invariant-loop-u
invariant-loop-u l = AtSuper (array_in l.array.array) l.supers l.total l.u
