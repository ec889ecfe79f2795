-- Slots and chunks correspond one to one. Assumes nothing.
use Prim.Native.Nat.{ℕ, ◌<◌, ◌≤◌}
use mathlib.Core.Path.{◌≡◌, refl, sym, ◌∙◌}
use mathlib.Core.Bool.{Bool, true, false, cond}
use mathlib.Core.List.{List, [], ◌∷◌}
use native.Mathlib.Omega.{arith}
use borrow.Author.Tests.{le-ltb, ltb-true, ltb-false}
use lib.Dec.{ltb}
use Rattle.std.specs.Prelude.{Err, None, Ok, Some}
use Rattle.refusal.specs.declared.Refusal.{Refusal}
use Rattle.refusal.specs.Refusals.{largest64, refuse, ◌then◌, Checked}
use Rattle.refusal.specs.Outcome.{◌yields◌}
use Rattle.chunk_grid.specs.Grid.{Grid, every, any, numbers_nothing, offsets, overflows, below, offsets_test, is_chunk, slot_of, grid_test}
use Rattle.chunk_grid.specs.Values.{in_extent, offsets_of}
use Rattle.refusal.proofs.Tests.{false_true, both, neither, then_inv, refuse_inv}
use Rattle.chunk_grid.proofs.Grids.{accepted, chunk_inv, slot_offsets, offsets-chunk, offsets_slot}

-- what lies below numbers that 64 bits hold is held by them too
pub below-fits : (l m : List ℕ) → below l m ≡ true → overflows m ≡ false → overflows l ≡ false
unfolding below every overflows any
below-fits [] m h f = refl
below-fits (a ∷ l) [] h f = absurd (false_true h)
below-fits (a ∷ l) (b ∷ m) h f =
    let t = both (ltb a b) (below l m) h in
    let y = neither (ltb largest64 b) (overflows m) f in
    rw (le-ltb largest64 a (omega (arith, ltb-true a b t.0, ltb-false largest64 b y.0))) (below-fits l m t.1 y.1)

-- what a slot's offsets answer, behind a test
module _ (l : List ℕ) where
  inside_after : (t : Checked) (b : Bool) → offsets_of (t yields Ok (cond b (Some l) None)) ≡ Ok true → (t ≡ Ok tt) × (b ≡ true)
  unfolding offsets_of ◌yields◌
  inside_after (Ok u) true h = (refl, refl)
  inside_after (Ok u) false h = (cc, cc)
  inside_after (Err r) b h = (cc, cc)

  dropped_after : (t : Checked) (b : Bool) → offsets_of (t yields Ok (cond b (Some l) None)) ≡ Ok false → (t ≡ Ok tt) × (b ≡ false)
  unfolding offsets_of ◌yields◌
  dropped_after (Ok u) true h = (cc, cc)
  dropped_after (Ok u) false h = (refl, refl)
  dropped_after (Err r) b h = (cc, cc)

  refused_after : (t : Checked) (b : Bool) (r : Refusal) → offsets_of (t yields Ok (cond b (Some l) None)) ≡ Err r → t ≡ Err r
  unfolding offsets_of ◌yields◌
  refused_after (Ok u) true r h = cc
  refused_after (Ok u) false r h = cc
  refused_after (Err q) b r h = cc

module _ (g : Grid) (s : ℕ) where
  -- a slot that is dropped, or refused
  pub dropped_inv : offsets_of (in_extent g s) ≡ Ok false → (offsets_test g s ≡ Ok tt) × (below (offsets g s) g.present ≡ false)
  unfolding in_extent
  dropped_inv h = dropped_after (offsets g s) _ _ h

  pub refused_inv : (r : Refusal) → offsets_of (in_extent g s) ≡ Err r → offsets_test g s ≡ Err r
  unfolding in_extent
  refused_inv r h = refused_after (offsets g s) (offsets_test g s) (below (offsets g s) g.present) r h

  -- a slot whose offsets lie in the present extents
  pub inside_passed : offsets_of (in_extent g s) ≡ Ok true → (offsets_test g s ≡ Ok tt) × (below (offsets g s) g.present ≡ true)
  unfolding in_extent
  inside_passed h = inside_after (offsets g s) _ _ h

  pub passed_inside : offsets_test g s ≡ Ok tt → below (offsets g s) g.present ≡ true → offsets_of (in_extent g s) ≡ Ok true
  unfolding in_extent offsets_of ◌yields◌
  passed_inside t b = rw (t, b) refl

  pub inside_inv : offsets_of (in_extent g s) ≡ Ok true → (numbers_nothing g ≡ false) × (overflows (offsets g s) ≡ false) × (below (offsets g s) g.present ≡ true)
  unfolding offsets_test
  inside_inv h =
      let p = inside_passed h in
      let t = then_inv _ _ p.0 in
      (refuse_inv _ _ t.0, refuse_inv _ _ t.1, p.1)

  pub inside : numbers_nothing g ≡ false → overflows (offsets g s) ≡ false → below (offsets g s) g.present ≡ true → offsets_of (in_extent g s) ≡ Ok true
  unfolding offsets_test refuse ◌then◌
  inside n o b = passed_inside (rw (n, o) refl) b

-- For a grid that was built: a chunk with a slot gets itself back from the offsets of that slot, ..
pub slot_chunk : (g : Grid) (corner : List ℕ) (s : ℕ) → grid_test g ≡ Ok tt → overflows g.present ≡ false → is_chunk g corner ≡ true → slot_of g corner ≡ Some s
    → (offsets g s ≡ corner) × (offsets_of (in_extent g s) ≡ Ok true) × (s ≤ largest64)
slot_chunk g corner s t f k h =
    let o = offsets_slot g (accepted g t) corner s k h in
    let b = (chunk_inv g corner k).inside in
    (o.0, inside g s o.1 (rw o.0 (below-fits corner g.present b f)) (rw o.0 b), o.2)

-- .. and from rank 1 on a slot whose offsets lie in the present extents is the slot of that corner, which is a chunk.
pub chunk_slot : (g : Grid) (s : ℕ) → grid_test g ≡ Ok tt → 0 < g.rank → s ≤ largest64 → offsets_of (in_extent g s) ≡ Ok true
    → (is_chunk g (offsets g s) ≡ true) × (slot_of g (offsets g s) ≡ Some s)
chunk_slot g s t r le h =
    let i = inside_inv g s h in
    (offsets-chunk g (accepted g t) s i.2, slot_offsets g (accepted g t) s r i.0 le)

-- Two different chunks never have the same slot.
pub slot_injective : (g : Grid) (a b : List ℕ) (s : ℕ) → grid_test g ≡ Ok tt → is_chunk g a ≡ true → is_chunk g b ≡ true → slot_of g a ≡ Some s → slot_of g b ≡ Some s → a ≡ b
slot_injective g a b s t k l h i = sym (offsets_slot g (accepted g t) a s k h).0 ∙ (offsets_slot g (accepted g t) b s l i).0
