-- `list_text::put_refusal` meets its contract: the word, the number, the figures and the line end, one behind the
-- other. Assumes nothing.
use mathlib.Core.List.{append_assoc, append-nil}
use Rattle.list_text.specs.Printed.{spaced, refusal_text}
use Rattle.std.proofs.Common.{rules}
use Rattle.list_text.proofs.Puts.{appended_then, appended_as, put_left}
use Rattle.list_text.proofs.put_refusal.Goals as goal

pub returns-clause-put : goal.returns-clause-put
unfolding refusal_text spaced
returns-clause-put c =
    let number = rw c.number.ensures at c.put_spaced.ensures.appended in
    let first = rw c.first.ensures at c.put_spaced-2.ensures.appended in
    let second = rw c.second.ensures at c.put_spaced-3.ensures.appended in
    let put = appended_then c.put.ensures.appended (appended_then number (appended_then first (appended_then second c.put-2.ensures.appended))) in
    put_left (appended_as put _ (simp (append_assoc, append-nil))) (λ e. search rules)
