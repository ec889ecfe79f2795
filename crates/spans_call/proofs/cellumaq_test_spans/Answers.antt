-- `spans_call::cellumaq_test_spans` meets its contract. Assumes nothing.
use Rattle.calls.proofs.Answers.{counted_picked}
use Rattle.spans_call.proofs.cellumaq_test_spans.Goals as goal

pub returns : goal.returns
returns c =
    let e = c.extensible_array_index_spans-counted.ensures in
    (counted_picked _ _ _ _ _ c.counted_number.ensures e.0, e.1, e.2)
