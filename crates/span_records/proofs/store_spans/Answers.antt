-- `span_records::store_spans` meets its contract. Assumes nothing.
use Rattle.std.proofs.Common.{refl, arith}
use Rattle.span_records.specs.Stored.{record_room}
use Rattle.span_records.proofs.Storing.{room_passed, room_refused, number_all, number_none}
use Rattle.span_records.proofs.store_spans.Goals as goal

pub returns-then-room-n-clause-checked : goal.returns-then-room-n-clause-checked
returns-then-room-n-clause-checked c = room_refused _ _ (omega arith)

pub returns-then-room-n-clause-records : goal.returns-then-room-n-clause-records
returns-then-room-n-clause-records c =
    let a = c.args in
    let e = number_none a.n (record_room a.addresses.now a.lengths.now a.spans.now) (omega arith) in
    rw e refl

pub returns-clause-checked : goal.returns-clause-checked
returns-clause-checked c = room_passed _ _ (omega arith)

pub returns-clause-records : goal.returns-clause-records
returns-clause-records c =
    let a = c.args in
    let e = number_all a.n (record_room a.addresses.now a.lengths.now a.spans.now) (omega arith) in
    rw e c.copy_spans.ensures
