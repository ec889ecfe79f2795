-- What `all` answers over two slices in step, as a test of their members pair by pair. Assumes nothing.
use Prim.Native.Nat.{ℕ, zero, suc, ◌<◌}
use mathlib.Core.Path.{◌≡◌, refl}
use mathlib.Core.Bool.{Bool, true, false, and-false}
use mathlib.Core.List.{List, [], ◌∷◌}
use native.Mathlib.Omega.{arith}
use lib.ListN.{length}
use Rattle.std.specs.Bool.{MatchBool}
use Rattle.std.specs.List.{AllWithin, HoldsAt, zip}
use Rattle.chunk_grid.specs.Grid.{every}

module _ (p : ℕ → ℕ → Bool) where
  abbrev pub Passes : ℕ × ℕ → Type 0
  Passes q = p q.0 q.1 ≡ true

  abbrev pub Fails : ℕ × ℕ → Type 0
  Fails q = p q.0 q.1 ≡ false

  all_pass : (l m : List ℕ) → length l ≡ length m → AllWithin Passes (zip l m) 0 (length (zip l m)) → true ≡ every p l m
  unfolding every
  all_pass [] m e h = refl
  all_pass (a ∷ l) [] e h = absurd (omega arith)
  all_pass (a ∷ l) (b ∷ m) e h =
      rw (h 0 (a, b) (omega arith) (omega arith)) (all_pass l m (omega arith) (λ k d z lt. h (suc k) d (omega arith) (omega arith)))

  one_fails : (l m : List ℕ) (k : ℕ) → k < length (zip l m) → HoldsAt Fails (zip l m) k → false ≡ every p l m
  unfolding every
  one_fails [] m k lt h = absurd (omega arith)
  one_fails (a ∷ l) [] k lt h = absurd (omega arith)
  one_fails (a ∷ l) (b ∷ m) zero lt h = rw (h (a, b)) refl
  one_fails (a ∷ l) (b ∷ m) (suc k) lt h = rw (← one_fails l m k (omega arith) h, and-false (p a b)) refl

  pub every_by : (l m : List ℕ) (r : Bool) → length l ≡ length m
      → MatchBool r (AllWithin Passes (zip l m) 0 (length (zip l m))) ((k : ℕ) × (k < length (zip l m)) × HoldsAt Fails (zip l m) k) → r ≡ every p l m
  every_by l m true e h = all_pass l m e h
  every_by l m false e h = one_fails l m h.0 h.1 h.2
