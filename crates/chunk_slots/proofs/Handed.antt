-- A slot's offsets as they are handed over in a lent array. Assumes nothing.
use Prim.Native.Nat.{ℕ, ◌+◌, ◌≤◌}
use mathlib.Core.Path.{◌≡◌, refl}
use mathlib.Core.Bool.{true, cond}
use mathlib.Core.List.{List, [], ◌∷◌, ◌++◌}
use native.Mathlib.Omega.{arith}
use lib.Dec.{ltb}
use lib.ListN.{length, take, drop}
use lib.Seq.{sets, sets-eq, length-sets, take_at}
use Rattle.std.specs.Prelude.{Ok}
use Rattle.refusal.proofs.Tests.{by_cond, false_true, both}
use Rattle.chunk_grid.specs.Grid.{Grid, pairwise, every, numbers_nothing, offsets, below, grid_test}
use Rattle.chunk_grid.specs.Values.{in_extent, offsets_of}
use Rattle.chunk_grid.proofs.Grids.{accepted, length-offsets}
use Rattle.chunk_grid.proofs.Slots.{inside_inv}
use Rattle.chunk_slots.specs.Values.{shown, handed}

-- offsets that all lie below the extents are handed over as they are
below-shown : (l m : List ℕ) → below l m ≡ true → pairwise (λ (o e : ℕ). cond (ltb o e) o 0) l m ≡ l
unfolding below every pairwise
below-shown [] m h = refl
below-shown (a ∷ l) [] h = absurd (false_true h)
below-shown (a ∷ l) (b ∷ m) h =
    let t = both (ltb a b) (below l m) h in
    rw (t.0, below-shown l m t.1) refl

module _ (g : Grid) (s : ℕ) where
  pub handed_inside : offsets_of (in_extent g s) ≡ Ok true → (l : List ℕ) → handed g s l ≡ sets l 0 (offsets g s)
  unfolding handed shown
  handed_inside h l = let i = inside_inv g s h in rw (i.0, below-shown (offsets g s) g.present i.2) refl

  -- an array that has room for them then begins with them
  pub handed_corner : grid_test g ≡ Ok tt → offsets_of (in_extent g s) ≡ Ok true → (l : List ℕ) → g.rank ≤ length l → take g.rank (handed g s l) ≡ offsets g s
  handed_corner t h l fits =
      let n = length-offsets g (accepted g t) s in
      let e : sets l 0 (offsets g s) ≡ offsets g s ++ drop (0 + length (offsets g s)) l = sets-eq (offsets g s) l 0 (omega arith) in
      rw (handed_inside h l, e) (take_at (offsets g s) _ g.rank n)

  -- the array keeps its length
  pub length-handed : (l : List ℕ) → length (handed g s l) ≡ length l
  unfolding handed
  length-handed l = by_cond (λ (m : List ℕ). length m ≡ length l) (numbers_nothing g) (λ t. refl) (λ t. length-sets l 0 (shown g s))
