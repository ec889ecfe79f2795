-- `list_text::Text::put_record` meets its contract: address, size, mask, offsets and line end, one behind the other.
-- Assumes nothing.
use Rattle.list_text.proofs.Puts.{appended_then, appended_as}
use Rattle.list_text.proofs.Lines.{record_parts}
use Rattle.list_text.proofs.Text.put_record.Goals as goal

pub returns-clause-appended : goal.returns-clause-appended
returns-clause-appended c =
    let one = rw c.read_u64_le.ensures at c.put_number.ensures.appended in
    let two = rw c.read_u32_le.ensures at c.put_spaced.ensures.appended in
    let three = rw c.read_u32_le-2.ensures at c.put_spaced-2.ensures.appended in
    let put = appended_then one (appended_then two (appended_then three (appended_then c.put_offsets.ensures.appended c.put.ensures.appended))) in
    appended_as put _ (record_parts _ _ _)
