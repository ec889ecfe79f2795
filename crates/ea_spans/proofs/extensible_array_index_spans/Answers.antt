-- `ea_spans::extensible_array_index_spans` meets its contract. Assumes nothing.
use Prim.Native.Nat.{min}
use mathlib.Core.Path.{◌≡◌}
use native.Mathlib.Omega.{arith}
use lib.ListN.{length}
use Rattle.ea_spans.specs.SpanList.{room_of, spans_into}
use Rattle.ea_spans.proofs.extensible_array_index_spans.Goals as goal

-- the limit is the first list's length
pub returns : goal.returns
unfolding spans_into
returns c =
    let a = c.args in
    let same : min (room_of a.addresses.now a.lengths.now) (length a.addresses.now) ≡ room_of a.addresses.now a.lengths.now = omega arith in
    rw same at c.extensible_array_index_spans_within.ensures
