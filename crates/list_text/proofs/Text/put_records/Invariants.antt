-- `list_text::Text::put_records` meets its contract: the lines left go behind those that are put. Assumes nothing.
use Prim.Native.Nat.{◌+◌, ◌-◌, ◌*◌, ◌≤◌}
use lib.ListN.{drop}
use Rattle.records.specs.Records.{record_length, records_in}
use Rattle.list_text.specs.Printed.{record_lines}
use Rattle.list_text.specs.Appended.{room}
use Rattle.list_text.proofs.Puts.{Putting}
use Rattle.list_text.proofs.Text.put_records.Given as goal

abbrev pub invariant-loop-i : goal.invariant-loop-i
invariant-loop-i l = (room l.initial.self ≤ room l.self + 4 * (l.i * record_length l.rank))
    × Putting l.initial.self (record_lines (records_in l.rank l.count l.list)) l.self (record_lines (records_in l.rank (l.count - l.i) (drop (l.i * record_length l.rank) l.list)))
