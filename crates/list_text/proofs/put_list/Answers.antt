-- `list_text::put_list` meets its contract: the lines, the word, the count and the line end, one behind the other.
-- Assumes nothing.
use Rattle.std.proofs.Common.{rules}
use Rattle.list_text.proofs.Puts.{appended_then, appended_as, put_left}
use Rattle.list_text.proofs.Lines.{list_parts}
use Rattle.list_text.proofs.put_list.Goals as goal

pub returns-clause-put : goal.returns-clause-put
returns-clause-put c =
    let put = appended_then c.put_records.ensures.appended (appended_then c.put.ensures.appended (appended_then c.put_spaced.ensures.appended c.put-2.ensures.appended)) in
    put_left (appended_as put _ (list_parts _ _ _)) (λ e. search rules)
