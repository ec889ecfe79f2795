-- How much room a line's numbers take. Assumes nothing.
use mathlib.Core.Path.{◌≡◌, ap}
use mathlib.Core.List.{List, [], ◌∷◌}
use Prim.Native.Nat.{ℕ, suc, ◌+◌, ◌*◌, ◌≤◌}
use native.Mathlib.Omega.{arith}
use lib.Dec.{eqb}
use lib.ListN.{length}
use borrow.Author.Tests.{eqb-true}
use Rattle.std.specs.Prelude.{None, Option, Some}
use Rattle.refusal.proofs.Tests.{by_cond}
use Rattle.questions.specs.Text.{words}
use Rattle.questions.specs.Line.{line_of, fits, word_number, if_number, no_question, with_number, question_from, line_question, question_of}
use Rattle.questions.specs.declared.Question.{Question}
use Rattle.questions.proofs.Words.{words_few}
use Rattle.questions.proofs.Inputs.{line_short}

-- a question's numbers have room in 32,768 bytes
none_asked : {A : Type 0} (q : Question) → None ≡ Some q → A
none_asked q h = let z : ◌≡◌ {A = ℕ} 0 1 = cc in absurd (omega arith)

asked_words : (p : Question) (i : ℕ) (ws : List (List ℕ)) (q : Question) → question_from p i ws ≡ Some q → i + length ws ≡ 6 + 3 * q.rank
unfolding question_from if_number
asked_words p i [] q h =
    by_cond (λ (x : Option Question). x ≡ Some q → i + 0 ≡ 6 + 3 * q.rank) (eqb i (6 + 3 * p.rank))
    (λ t e.
    let same : p ≡ q = cc in
    omega (arith, eqb-true i (6 + 3 * p.rank) t, ap (λ (x : Question). x.rank) same))
    (λ _ e. none_asked q e)
    h
asked_words p i (w ∷ ws) q h = go (word_number p.rank i w) (λ n. asked_words (with_number p i n) (suc i) ws q) h
  where
    go : (x : Option ℕ) → ((n : ℕ) → question_from (with_number p i n) (suc i) ws ≡ Some q → suc i + length ws ≡ 6 + 3 * q.rank)
        → if_number x None (λ n. question_from (with_number p i n) (suc i) ws) ≡ Some q → i + suc (length ws) ≡ 6 + 3 * q.rank
    go (Some n) f e = omega (arith, f n e)
    go None f e = none_asked q e

pub rank_small : (input : List ℕ) (q : Question) → question_of input ≡ Some q → 48 + 24 * q.rank ≤ 32768
unfolding question_of line_question
rank_small input q h =
    by_cond (λ (x : Option Question). x ≡ Some q → 48 + 24 * q.rank ≤ 32768) (fits input)
    (λ t e. omega (arith, line_short input t, words_few (line_of input), asked_words no_question 0 (words (line_of input)) q e))
    (λ _ e. none_asked q e)
    h
