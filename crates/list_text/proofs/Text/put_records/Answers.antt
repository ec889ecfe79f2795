-- `list_text::Text::put_records` meets its contract: the lines left go behind those that are put. Assumes nothing.
use Prim.Native.Nat.{◌*◌}
use mathlib.Core.Path.{◌≡◌}
use native.Mathlib.Nat.{sub-zero}
use native.Mathlib.Omega.{arith}
use Rattle.records.specs.Records.{record_length}
use Rattle.list_text.proofs.Puts.{put_none, put_more, put_all}
use Rattle.list_text.proofs.Lines.{records_on, records_none}
use Rattle.list_text.proofs.Text.put_records.Goals as goal

pub loop-i-init : goal.loop-i-init
loop-i-init c =
    let none : 0 * record_length c.args.rank ≡ 0 = omega arith in
    (omega arith, rw (none, sub-zero) (put_none _ _))

pub loop-i-preserved : goal.loop-i-preserved
unfolding record_length
loop-i-preserved c =
    let l = c.loop-i in
    let a = c.args in
    let lines = rw (records_on a.list.now a.rank a.count l.i c.loop-i-test.true) at l.invariant.1 in
    (omega arith, put_more lines c.put_record.ensures.appended)

pub returns-clause-appended : goal.returns-clause-appended
returns-clause-appended c =
    put_all (rw (records_none c.args.list.now c.args.rank c.args.count c.loop-i.i c.loop-i-test.false) at c.loop-i.invariant.1)
