-- What is read behind its own test, with another test after that: by the results of the two. Assumes nothing.
use mathlib.Core.Path.{◌≡◌}
use Rattle.std.specs.Prelude.{Err, Ok}
use Rattle.refusal.specs.declared.Refusal.{Refusal}
use Rattle.refusal.specs.Refusals.{◌then◌, Checked}
use Rattle.refusal.specs.Outcome.{◌yields◌}
use Rattle.refusal.proofs.Outcomes.{value_is, refused_is}

module _ {A : Type 0} (t u : Checked) (x : A) where
  pub refused : (r : Refusal) → Err r ≡ (t yields Ok x) → Err r ≡ (t then u yields Ok x)
  unfolding ◌then◌ ◌yields◌
  refused r h = rw (← refused_is t x r h)

  module _ (v : A) (h : Ok v ≡ (t yields Ok x)) where
    pub stopped : (r : Refusal) → Err r ≡ u → Err r ≡ (t then u yields Ok x)
    unfolding ◌then◌ ◌yields◌
    stopped r e = rw (← (value_is t x v h).0, ← e)

    pub passed : Ok tt ≡ u → Ok v ≡ (t then u yields Ok x)
    unfolding ◌then◌ ◌yields◌
    passed e = let i = value_is t x v h in rw (← i.0, ← e, i.1)
