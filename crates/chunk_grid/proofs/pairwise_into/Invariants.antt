-- `chunk_grid::pairwise_into` meets its contract. Assumes nothing.
use Prim.Native.Nat.{ℕ, ◌<◌}
use mathlib.Core.Path.{◌≡◌}
use lib.ListN.{length, take}
use Rattle.chunk_grid.specs.Grid.{pairwise}
use Rattle.chunk_grid.proofs.pairwise_into.Given as goal

abbrev pub invariant-loop-i : goal.invariant-loop-i
invariant-loop-i g l = (length l.out ≡ length l.chunk)
    × ((h : ℕ → ℕ → ℕ) → ((a b r : ℕ) → 0 < b → goal.F-post g l.f a b r → r ≡ h a b) → take l.i l.out ≡ take l.i (pairwise h l.extents l.chunk))
