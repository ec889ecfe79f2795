-- The number that a call answers: the one of its answer that is asked for; and 0, asked of the refusal, says that the
-- call is accepted. Assumes nothing.
use Prim.Native.Nat.{ℕ, suc, ◌-◌, ◌<◌, ◌≤◌}
use mathlib.Core.Path.{◌≡◌, refl, sym, ap, ◌∙◌}
use mathlib.Core.List.{List}
use native.Mathlib.Omega.{arith}
use lib.ListN.{get_or, replicate, get_or-replicate, length-replicate, get_or-eq_default}
use Rattle.std.specs.Prelude.{Err, None, Ok, Option, Some}
use Rattle.index.specs.declared.Entry.{Entry}
use Rattle.refusal.specs.Refusals.{Outcome}
use Rattle.refusal.specs.declared.Refusal.{Refusal}
use Rattle.refusal.specs.Numbers.{number_of}
use Rattle.refusal.specs.Values.{counted_of}
use Rattle.refusal.proofs.Numbers.{number_above}
use Rattle.index.specs.Index.{Rec}
use Rattle.elements.specs.Values.{found_of}
use Rattle.calls.specs.Answer.{answered, picked, list_numbers, found_numbers, chunk_names, ZeroAccepts}
use Rattle.calls.specs.Values.{refused_answer, counted_answer, entry_numbers, found_answer}

-- the numbers of a refusal that are named, and those beyond
module _ (which names : ℕ) (r : Refusal) (h : 3 ≤ which) where
  behind : (k : ℕ) → which ≡ suc (suc (suc k)) → picked which (refused_answer names r) ≡ get_or (replicate names 0) k (number_of r)
  unfolding picked
  behind k e = rw e refl

  pub refused_named : which - 3 < names → 0 ≡ picked which (refused_answer names r)
  refused_named n = sym (behind (which - 3) (omega arith) ∙ get_or-replicate names (which - 3) 0 (number_of r) n)

  pub refused_beyond : names ≤ which - 3 → number_of r ≡ picked which (refused_answer names r)
  refused_beyond n =
      let z = length-replicate {A = ℕ} names 0 in
      sym (behind (which - 3) (omega arith) ∙ get_or-eq_default (replicate names 0) _ {n = which - 3} (omega (arith, z)))

-- What is answered of a list's count is what is answered of the list.
counted_same : {A : Type 0} (names : ℕ) (a : Outcome (List A)) → counted_answer names (counted_of a) ≡ answered names list_numbers a
unfolding counted_of answered list_numbers
counted_same names (Err r) = refl
counted_same names (Ok l) = refl

pub counted_picked : {A : Type 0} (names which number : ℕ) (counted : Outcome ℕ) (a : Outcome (List A))
    → number ≡ picked which (counted_answer names counted) → counted ≡ counted_of a
    → number ≡ picked which (answered names list_numbers a)
counted_picked names which number counted a n e = n ∙ ap (λ (c : Outcome ℕ). picked which (counted_answer names c)) e ∙ ap (picked which) (counted_same names a)

-- What is answered of what a lookup finds is what is answered of the lookup.
found_same : (a : Outcome (Option Rec)) → found_answer (found_of a) ≡ answered chunk_names found_numbers a
unfolding found_of answered entry_numbers found_numbers
found_same (Err r) = refl
found_same (Ok None) = refl
found_same (Ok (Some r)) = refl

pub found_picked : (which number : ℕ) (found : Outcome (Option Entry)) (a : Outcome (Option Rec)) → number ≡ picked which (found_answer found) → found ≡ found_of a
    → number ≡ picked which (answered chunk_names found_numbers a)
found_picked which number found a n e = n ∙ ap (λ (x : Outcome (Option Entry)). picked which (found_answer x)) e ∙ ap (picked which) (found_same a)

-- The number 0, asked of the refusal, says that the call is accepted.
pub zero_accepts : {A : Type 0} (names : ℕ) (numbers : A → List ℕ) (a : Outcome A) (which number : ℕ)
    → number ≡ picked which (answered names numbers a) → ZeroAccepts a which number
unfolding picked answered
zero_accepts names numbers (Err r) which number e w z =
    let p : number ≡ number_of r = e ∙ rw w refl in
    absurd (omega (arith, number_above r, p))
zero_accepts names numbers (Ok x) which number e w z = (x, refl)
