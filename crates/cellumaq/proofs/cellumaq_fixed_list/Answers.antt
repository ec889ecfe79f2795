-- `cellumaq::cellumaq_fixed_list` meets its contract. Assumes nothing.
use mathlib.Core.Path.{◌≡◌, subst}
use Rattle.refusal.specs.Values.{counted_of}
use Rattle.index.specs.Index.{Listing}
use Rattle.calls.proofs.Answers.{counted_picked, zero_accepts}
use Rattle.fa_walk.specs.Walk.{fixed_list}
use Rattle.fa_calls.specs.Call.{fixed_call_array, fixed_call_elements, fixed_call_answer}
use Rattle.cellumaq.proofs.cellumaq_fixed_list.Goals as goal

pub returns : goal.returns
unfolding counted_of fixed_call_answer fixed_call_array fixed_call_elements fixed_list
returns c =
    let e = c.list_at-listed.ensures in
    let number = counted_picked _ _ _ _ _ c.counted_number.ensures e.0 in
    (number, zero_accepts _ _ _ _ _ number, e.1, λ l h. e.2 _ (subst (λ (a : Listing). c.list_at-listed.result ≡ counted_of a) h e.0))
