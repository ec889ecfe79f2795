-- `records::put_record` meets its contract. Assumes nothing.
use Rattle.records.proofs.Records.{record_stored}
use Rattle.records.proofs.put_record.Goals as goal

pub returns : goal.returns
returns c =
    rw (c.put_offsets.ensures, c.put_le-3.ensures, c.put_le-2.ensures, c.put_le.ensures) (record_stored _ _ _)
