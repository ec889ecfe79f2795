-- A slot and its chunk give each other back, and a corner is a chunk's where it passes its test. Assumes nothing.
use Prim.Native.Nat.{ℕ, ◌<◌, ◌≤◌}
use mathlib.Core.Path.{◌≡◌, refl, subst}
use mathlib.Core.Bool.{true, false, not, ◌||◌}
use mathlib.Core.List.{List}
use native.Mathlib.Omega.{arith}
use borrow.Author.Tests.{not-false}
use Rattle.std.specs.Prelude.{Ok, Option, Some}
use Rattle.refusal.specs.Refusals.{largest64, refuse}
use Rattle.refusal.proofs.Tests.{by_cond, neither, refuse_inv}
use Rattle.chunk_grid.specs.Grid.{Grid, numbers_nothing, offsets, below, is_chunk, corner_test, slot_of}
use Rattle.chunk_grid.specs.Chunks.{chunk_at}
use Rattle.chunk_grid.proofs.Grids.{Accepted, chunk_inv, slot_offsets, offsets-chunk, offsets_slot}

-- the chunk of a slot has the slot's offsets, which lie inside
pub chunk_at_inv : (g : Grid) (s : ℕ) (corner : List ℕ) → chunk_at g s ≡ Some corner
    → (numbers_nothing g ≡ false) × (below (offsets g s) g.present ≡ true) × (offsets g s ≡ corner)
unfolding chunk_at
chunk_at_inv g s corner =
    by_cond (λ (x : Option (List ℕ)). x ≡ Some corner → (numbers_nothing g ≡ false) × (below (offsets g s) g.present ≡ true) × (offsets g s ≡ corner))
    (numbers_nothing g || not (below (offsets g s) g.present))
    (λ t h. let z : ◌≡◌ {A = ℕ} 0 1 = cc in absurd (omega arith))
    (λ t h.
    let z = neither (numbers_nothing g) (not (below (offsets g s) g.present)) t in
    (z.0, not-false _ z.1, cc))

module _ (g : Grid) (b : Accepted g) where
  -- from rank 1 on the chunk of a slot has that slot
  pub chunk_at_slot : (s : ℕ) (corner : List ℕ) → 0 < g.rank → s ≤ largest64 → chunk_at g s ≡ Some corner → (is_chunk g corner ≡ true) × (slot_of g corner ≡ Some s)
  chunk_at_slot s corner r l h =
      let i = chunk_at_inv g s corner h in
      subst (λ (x : List ℕ). (is_chunk g x ≡ true) × (slot_of g x ≡ Some s)) i.2 (offsets-chunk g b s i.1, slot_offsets g b s r i.0 l)

  -- a chunk that has a slot is the chunk of that slot
  pub slot_chunk_at : (corner : List ℕ) (s : ℕ) → is_chunk g corner ≡ true → slot_of g corner ≡ Some s → chunk_at g s ≡ Some corner
  unfolding chunk_at
  slot_chunk_at corner s a h =
      let o = offsets_slot g b corner s a h in
      rw (o.0, o.1, (chunk_inv g corner a).inside) refl

-- the corners that pass their test are those of chunks
pub corner_chunk : (g : Grid) (corner : List ℕ) → corner_test g corner ≡ Ok tt → is_chunk g corner ≡ true
unfolding corner_test
corner_chunk g corner h = not-false _ (refuse_inv _ _ h)

pub chunk_corner : (g : Grid) (corner : List ℕ) → is_chunk g corner ≡ true → corner_test g corner ≡ Ok tt
unfolding corner_test refuse
chunk_corner g corner k = rw k refl
