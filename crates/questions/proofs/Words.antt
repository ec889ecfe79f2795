-- Laws of finding a byte and of a line's words. Assumes nothing.
use mathlib.Core.Path.{◌≡◌, refl, ap, ◌∙◌}
use mathlib.Core.Logic.{◌≢◌}
use mathlib.Core.Bool.{Bool, true, false, cond}
use mathlib.Core.List.{List, [], ◌∷◌}
use Prim.Native.Nat.{ℕ, zero, suc, ◌≤◌, ◌<◌}
use native.Mathlib.Omega.{arith}
use lib.ListN.{length, get_or, take}
use lib.Dec.{eqb}
use borrow.Author.Tests.{eq-eqb, ne_eqb}
use Rattle.refusal.proofs.Tests.{by_cond}
use Rattle.std.specs.List.{AllWithin, HoldsAt, slice_split, onto_first, enumerate_from}
use Rattle.std.proofs.lemmas.List.{get_or_default}
use Rattle.std.proofs.lemmas.List.Splits.{length-slice_split}
use Rattle.std.proofs.lemmas.List.FromFn.{get_or-enumerate_from, length-enumerate_from}
use Rattle.questions.specs.Text.{before, on_first, words}

pub take-before : (b : ℕ) (s : List ℕ) → take (length (before b s)) s ≡ before b s
unfolding before
take-before b [] = refl
take-before b (x ∷ s) = go (eqb x b) (take-before b s)
  where
    go : (t : Bool) → take (length (before b s)) s ≡ before b s → take (length (cond t [] (x ∷ before b s))) (x ∷ s) ≡ cond t [] (x ∷ before b s)
    go true h = refl
    go false h = ap (λ (l : List ℕ). x ∷ l) h

-- b stands at no place before i
pub before_from : (b : ℕ) (s : List ℕ) (i : ℕ) → i ≤ length s → AllWithin (λ x. x ≢ b) s 0 i → (i < length s → HoldsAt (λ x. x ≡ b) s i) → take i s ≡ before b s
unfolding before
before_from b [] zero h none here = refl
before_from b [] (suc i) h none here = absurd (omega arith)
before_from b (x ∷ s) zero h none here = rw (eq-eqb x b (here (omega arith) 0)) refl
before_from b (x ∷ s) (suc i) h none here =
    rw (ne_eqb x b (none 0 0 (omega arith) (omega arith)))
    (ap (λ (l : List ℕ). x ∷ l)
    (before_from b s i (omega arith) (λ k d low high. none (suc k) d (omega arith) (omega arith)) (λ high. here (omega arith))))

-- a line's words are what std's `split` makes of it
onto_first_is : (x : ℕ) (ws : List (List ℕ)) → 0 < length ws → onto_first x ws ≡ on_first x ws
unfolding on_first
onto_first_is x [] h = absurd (omega arith)
onto_first_is x (w ∷ ws) h = refl

pub words_split : (s : List ℕ) → slice_split (λ b. eqb b 32) s ≡ words s
unfolding words
words_split [] = refl
words_split (x ∷ s) =
    let some = onto_first_is x (slice_split (λ b. eqb b 32) s) (omega (arith, length-slice_split (λ b. eqb b 32) s)) in
    rw (some, words_split s) refl

-- the word at hand, with its number
pub word_at : (s : List ℕ) (k i : ℕ) (w : List ℕ) → let all = enumerate_from 0 (slice_split (λ b. eqb b 32) s) in
    (k < length all) × ((i, w) ≡ get_or all k (i, w)) → (i ≡ k) × (k < length (words s)) × (w ≡ get_or (words s) k [])
word_at s k i w h =
    let t = rw (words_split s, length-enumerate_from 0 (words s)) at h in
    let e = t.1 ∙ get_or-enumerate_from 0 (words s) k (i, w) t.0 in
    let number = ap (λ (p : ℕ × List ℕ). p.0) e in
    (omega arith, t.0, ap (λ (p : ℕ × List ℕ). p.1) e ∙ get_or_default (words s) k w [] t.0)

-- a line has at most one word more than bytes
on_first_length : (x : ℕ) (ws : List (List ℕ)) → length (on_first x ws) ≡ length ws
unfolding on_first
on_first_length x [] = refl
on_first_length x (w ∷ ws) = refl

pub words_few : (s : List ℕ) → length (words s) ≤ suc (length s)
unfolding words
words_few [] = omega arith
words_few (x ∷ s) =
    let few = words_few s in
    by_cond (λ (ws : List (List ℕ)). length ws ≤ suc (suc (length s))) (eqb x 32)
    (λ _. omega arith)
    (λ _. omega (arith, on_first_length x (words s)))
