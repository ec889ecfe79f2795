-- The three outcomes of the test of a trailing checksum. Assumes nothing.
use Rattle.std.specs.Prelude.{Err, Ok}
use Rattle.std.proofs.Common.{◌≡◌, ℕ, ◌<◌, ◌≤◌, List, length, sym, ◌∙◌, le-ltb, lt-ltb, eq-eqb, ne_eqb}
use Rattle.refusal.specs.declared.Refusal.TheVariants.{Checksum, PastEnd}
use Rattle.refusal.specs.Refusals.{refuse, ◌then◌}
use Rattle.checksum.specs.Trailing.{stored_of, body_of, trailing_test}

module _ (sum : List ℕ → ℕ) (block : List ℕ) where
  pub short : length block < 4 → Err (PastEnd 4 (length block)) ≡ trailing_test sum block
  unfolding trailing_test refuse ◌then◌
  short h = simp (lt-ltb (length block) 4 h)

  -- with what is stored and computed
  module _ (stored computed : ℕ) (e : stored ≡ stored_of block) (d : computed ≡ sum (body_of block)) where
    pub same : 4 ≤ length block → stored ≡ computed → Ok tt ≡ trailing_test sum block
    unfolding trailing_test refuse ◌then◌
    same h q = simp (le-ltb (length block) 4 h, eq-eqb (stored_of block) (sum (body_of block)) (sym e ∙ q ∙ d))

    pub other : 4 ≤ length block → (stored ≡ computed → ⊥) → Err (Checksum stored computed) ≡ trailing_test sum block
    unfolding trailing_test refuse ◌then◌
    other h n = rw (e, d) (simp (le-ltb (length block) 4 h, ne_eqb (stored_of block) (sum (body_of block)) (λ q. n (e ∙ q ∙ sym d))))
