-- `cellumaq::cellumaq_list` meets its contract. Assumes nothing.
use mathlib.Core.Path.{◌≡◌, subst}
use Rattle.refusal.specs.Values.{counted_of}
use Rattle.index.specs.Index.{Listing}
use Rattle.calls.proofs.Answers.{counted_picked, zero_accepts}
use Rattle.cellumaq.proofs.cellumaq_list.Goals as goal

pub returns : goal.returns
unfolding counted_of
returns c =
    let e = c.list_at-counted.ensures in
    let number = counted_picked _ _ _ _ _ c.counted_number.ensures e.0 in
    (number, zero_accepts _ _ _ _ _ number, e.1, λ l h. e.2 _ (subst (λ (a : Listing). c.list_at-counted.result ≡ counted_of a) h e.0))
