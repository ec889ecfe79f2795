-- Places grow with slots. Assumes nothing.
use Prim.Native.Nat.{ℕ, suc, ◌+◌, ◌*◌, ◌<◌, ◌≤◌}
use mathlib.Core.Path.{◌≡◌, refl, sym, subst}
use mathlib.Core.Bool.{true}
use mathlib.Core.List.{List, [], ◌∷◌}
use mathlib.Core.Logic.{◌⊎◌, inl, inr}
use native.Mathlib.Omega.{arith}
use native.Mathlib.Nat.{eq-or-lt_of_le, mul-le-mul_right}
use borrow.Author.Tests.{lt-ltb, le-ltb, eq-eqb}
use Rattle.ea_header.specs.Values.{Served}
use Rattle.ea_header.specs.declared.Parameters.{Parameters}
use Rattle.refusal.proofs.Tests.{lt_or_ge}
use Rattle.ea_geometry.specs.Sizes.{block_elements}
use Rattle.ea_geometry.specs.Place.{place}
use Rattle.ea_geometry.specs.Slots.{first_slot, capacity, slot_in, InBlock, PlaceOf, coordinates, lower, before}
use Rattle.ea_geometry.specs.declared.Place.{Place}
use Rattle.ea_geometry.specs.declared.Place.TheVariants.{Inline, Block, Page, Nowhere}
use Rattle.ea_geometry.proofs.Counts.{elements_before_mono}
use Rattle.ea_geometry.proofs.Places.{in_super_block_lem, place_of_lem}

lower_lt : (a b : ℕ) (l m : List ℕ) → a < b → lower (a ∷ l) (b ∷ m) ≡ true
unfolding lower
lower_lt a b l m h = simp (lt-ltb a b h)

lower_eq : (a b : ℕ) (l m : List ℕ) → a ≡ b → lower l m ≡ true → lower (a ∷ l) (b ∷ m) ≡ true
unfolding lower
lower_eq a b l m e h = simp (le-ltb a b (omega arith), eq-eqb a b e, h)

-- two numbers by their quotients and remainders
digits_grow : (n k k' i i' : ℕ) → i' < n → k * n + i < k' * n + i' → (k < k') ⊎ ((k ≡ k') × (i < i'))
digits_grow n k k' i i' small h = go (lt_or_ge k k')
  where
    same : (k' ≡ k) ⊎ (k' < k) → (k < k') ⊎ ((k ≡ k') × (i < i'))
    same (inl e) = let z = subst (λ (x : ℕ). k * n + i < x * n + i') e h in inr (sym e, omega arith)
    same (inr lt) = absurd (omega (arith, mul-le-mul_right n lt))

    go : (k < k') ⊎ (k' ≤ k) → (k < k') ⊎ ((k ≡ k') × (i < i'))
    go (inl lt) = inl lt
    go (inr ge) = same (eq-or-lt_of_le ge)

module _ (h : Parameters) (v : Served h) (s t : ℕ) (less : s < t) where
  -- in one super block
  block_grow : (u k i k' i' : ℕ) → InBlock h s u k i → InBlock h t u k' i' → lower (k ∷ i ∷ []) (k' ∷ i' ∷ []) ≡ true
  unfolding slot_in
  block_grow u k i k' i' b d = go (digits_grow (block_elements h u) k k' i i' d.element (omega (arith, b.slot, d.slot)))
    where
      go : (k < k') ⊎ ((k ≡ k') × (i < i')) → lower (k ∷ i ∷ []) (k' ∷ i' ∷ []) ≡ true
      go (inl lt) = lower_lt k k' _ _ lt
      go (inr e) = lower_eq k k' _ _ e.0 (lower_lt i i' _ _ e.1)

  super_grow : (u k i u' k' i' : ℕ) → InBlock h s u k i → InBlock h t u' k' i' → lower (suc u ∷ k ∷ i ∷ []) (suc u' ∷ k' ∷ i' ∷ []) ≡ true
  unfolding first_slot
  super_grow u k i u' k' i' b d = go (lt_or_ge u u')
    where
      same : (u' ≡ u) ⊎ (u' < u) → lower (suc u ∷ k ∷ i ∷ []) (suc u' ∷ k' ∷ i' ∷ []) ≡ true
      same (inl e) = lower_eq (suc u) (suc u') _ _ (omega arith) (block_grow u k i k' i' b (subst (λ (x : ℕ). InBlock h t x k' i') e d))
      same (inr lt) = absurd (omega (arith, in_super_block_lem h v s u k i b, in_super_block_lem h v t u' k' i' d, elements_before_mono h (u' + 1) u (omega arith)))

      go : (u < u') ⊎ (u' ≤ u) → lower (suc u ∷ k ∷ i ∷ []) (suc u' ∷ k' ∷ i' ∷ []) ≡ true
      go (inl lt) = lower_lt (suc u) (suc u') _ _ (omega arith)
      go (inr ge) = same (eq-or-lt_of_le ge)

-- a place by its coordinates: an inline one, or one in a data block
Coordinates : Parameters → ℕ → List ℕ → Type 0
Coordinates h s l = ((s < h.idx_blk_elmts) × (l ≡ 0 ∷ s ∷ [])) ⊎ ((u : ℕ) × (k : ℕ) × (i : ℕ) × InBlock h s u k i × (l ≡ suc u ∷ k ∷ i ∷ []))

coordinates_of : (h : Parameters) (s : ℕ) (p : Place) → s < capacity h → PlaceOf h s p → Coordinates h s (coordinates p)
unfolding Coordinates PlaceOf coordinates
coordinates_of h s (Inline i) lt b = inl (omega arith, rw b.0)
coordinates_of h s (Block u k i) lt b = inr (u, k, i, b.0, refl)
coordinates_of h s (Page u k i p n) lt b = inr (u, k, i, b.0, refl)
coordinates_of h s Nowhere lt b = absurd (omega arith)

pub places_grow : (h : Parameters) → Served h → (s t : ℕ) → s < t → t < capacity h → before (place h s) (place h t) ≡ true
unfolding before Coordinates first_slot
places_grow h v s t less lt = go (coordinates_of h s (place h s) (omega arith) (place_of_lem h v s)) (coordinates_of h t (place h t) lt (place_of_lem h v t))
  where
    go : Coordinates h s (coordinates (place h s)) → Coordinates h t (coordinates (place h t)) → lower (coordinates (place h s)) (coordinates (place h t)) ≡ true
    go (inl a) (inl b) = rw (a.1, b.1) (lower_eq 0 0 _ _ refl (lower_lt s t _ _ less))
    go (inl a) (inr b) = rw (a.1, b.4) (lower_lt 0 _ _ _ (omega arith))
    go (inr a) (inl b) = absurd (omega (arith, in_super_block_lem h v s a.0 a.1 a.2 a.3))
    go (inr a) (inr b) = rw (a.4, b.4) (super_grow h v s t less a.0 a.1 a.2 b.0 b.1 b.2 a.3 b.3)
