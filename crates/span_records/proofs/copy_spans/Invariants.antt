-- `span_records::copy_spans` meets its contract: the first i records hold the first i spans. Assumes nothing.
use Rattle.std.proofs.Common.{◌≡◌, ◌++◌, length}
use lib.ListN.{drop}
use Rattle.span_records.specs.Stored.{stored}
use Rattle.span_records.proofs.copy_spans.Given as goal

abbrev pub invariant-loop-i : goal.invariant-loop-i
invariant-loop-i l = (length l.span-items ≡ l.n) × (l.span-items ++ drop l.n l.fn.spans ≡ stored l.i l.addresses l.lengths l.fn.spans)
