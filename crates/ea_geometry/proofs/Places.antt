-- The place of a slot. The slots of super block u are the interval from first_slot h u to first_slot h (u + 1), and
-- every slot below the capacity has one place. Assumes nothing.
use Prim.Native.Nat.{ℕ, ◌+◌, ◌-◌, ◌*◌, ◌/◌, ◌%◌, ◌^◌, ◌<◌, ◌≤◌}
use mathlib.Core.Path.{◌≡◌, refl, sym, ap, subst, ◌∙◌}
use mathlib.Core.Bool.{true}
use native.Mathlib.Omega.{arith}
use native.Mathlib.Nat.{lt_of_not-le, div-add-mod', div-lt_iff_lt-mul, le-div_iff_mul-le, mul_comm, mod-lt}
use borrow.Author.Tests.{ltb-true, ltb-false, leb-true, lt-ltb, le-ltb}
use lib.Dec.{ltb, leb}
use lib.Arith.{digits_lt, digits_div, digits_mod}
use lib.Pow.{pow_pos}
use Rattle.ea_header.specs.Log.{log2}
use Rattle.ea_header.specs.Values.{Served}
use Rattle.ea_header.specs.declared.Parameters.{Parameters}
use Rattle.refusal.proofs.Tests.{by_cond, both}
use Rattle.ea_header.proofs.Log.{log2_is, log2_ge, log2_lo, log2_hi}
use Rattle.ea_header.proofs.Served.{least_pos}
use Rattle.ea_geometry.specs.Sizes.{super_blocks, blocks, block_elements, direct_super_blocks, elements_before, page_elements, over_page, pages}
use Rattle.ea_geometry.specs.Place.{super_of, in_pages, place_in, in_super_block, place}
use Rattle.ea_geometry.specs.Slots.{first_slot, capacity, slot_in, InBlock, PlaceOf}
use Rattle.ea_geometry.specs.declared.Place.{Place}
use Rattle.ea_geometry.specs.declared.Place.TheVariants.{Inline, Block, Page, Nowhere}
use Rattle.ea_geometry.proofs.Counts.{next_power, next_elements, elements_before_mono, supers_few, elements_pos, pages-exact}

-- a block that is read by pages has more elements than a page
pub in_pages_over : (h : Parameters) (u : ℕ) → in_pages h u ≡ true → over_page h u ≡ true
unfolding in_pages
in_pages_over h u q = (both (leb (direct_super_blocks h) u) (over_page h u) q).1

-- super block 0 begins behind the inline slots, and each further one where the one before it ends
pub first_slot_zero : (h : Parameters) → first_slot h 0 ≡ h.idx_blk_elmts
unfolding first_slot elements_before
first_slot_zero h = omega arith

pub next_slot : (h : Parameters) (u : ℕ) → first_slot h u + blocks u * block_elements h u ≡ first_slot h (u + 1)
unfolding first_slot
next_slot h u = omega (arith, next_elements h u)

pub first_slot_mono : (h : Parameters) (u n : ℕ) → u ≤ n → first_slot h u ≤ first_slot h n
unfolding first_slot
first_slot_mono h u n le = omega (arith, elements_before_mono h u n le)

-- blocks that are read by pages are named in their super block
pub paged_behind : (h : Parameters) (u : ℕ) → in_pages h u ≡ true → direct_super_blocks h ≤ u
unfolding in_pages
paged_behind h u q = leb-true _ _ (both (leb (direct_super_blocks h) u) (over_page h u) q).0

module _ (h : Parameters) (v : Served h) where
  -- element e behind the inline ones lies in super block u if it lies between what stands before u and what stands
  -- before u + 1 ..
  pub super_is : (e u : ℕ) → u < 63 → elements_before h u ≤ e → e < elements_before h (u + 1) → super_of h e ≡ u
  unfolding super_of elements_before
  super_is e u small lo hi =
      let m = h.min_dblk_nelmts in
      let pos = least_pos h v in
      let a : 2 ^ u - 1 ≤ e / m = (le-div_iff_mul-le pos).1 (subst (λ (k : ℕ). k ≤ e) (mul_comm m (2 ^ u - 1)) lo) in
      let b : e / m < 2 ^ (u + 1) - 1 = (div-lt_iff_lt-mul pos).1 (subst (λ (k : ℕ). e < k) (mul_comm m (2 ^ (u + 1) - 1)) hi) in
      let p = pow_pos u in
      let q = next_power u in
      log2_is 64 u (e / m + 1) (omega arith) (omega arith) (omega arith)

  -- .. and only then
  pub super_lo : (e : ℕ) → elements_before h (super_of h e) ≤ e
  unfolding super_of elements_before
  super_lo e =
      let m = h.min_dblk_nelmts in
      let p = log2_lo 64 (e / m + 1) (omega arith) in
      let q : 2 ^ log2 (e / m + 1) - 1 ≤ e / m = omega arith in
      subst (λ (k : ℕ). k ≤ e) (mul_comm (2 ^ log2 (e / m + 1) - 1) m) ((le-div_iff_mul-le (least_pos h v)).0 q)

  pub super_hi : (e : ℕ) → super_of h e < 64 → e < elements_before h (super_of h e + 1)
  unfolding super_of elements_before
  super_hi e lt =
      let m = h.min_dblk_nelmts in
      let u = log2 (e / m + 1) in
      let p = log2_hi 64 (e / m + 1) lt in
      let t = next_power u in
      let q : e / m < 2 ^ (u + 1) - 1 = omega arith in
      subst (λ (k : ℕ). e < k) (mul_comm (2 ^ (u + 1) - 1) m) ((div-lt_iff_lt-mul (least_pos h v)).0 q)

  -- at or past super block u, if it is past what stands before u
  super_ge : (e u : ℕ) → u ≤ 63 → elements_before h u ≤ e → u ≤ super_of h e
  unfolding super_of elements_before
  super_ge e u small lo =
      let m = h.min_dblk_nelmts in
      let a : 2 ^ u - 1 ≤ e / m = (le-div_iff_mul-le (least_pos h v)).1 (subst (λ (k : ℕ). k ≤ e) (mul_comm m (2 ^ u - 1)) lo) in
      let p = pow_pos u in
      log2_ge 64 u (e / m + 1) (omega arith) (omega arith)

  -- below what stands before super block n, it lies in one before n
  pub super_below : (e n : ℕ) → e < elements_before h n → super_of h e < n
  super_below e n lt = lt_of_not-le (λ g. omega (arith, elements_before_mono h n (super_of h e) g, super_lo e))

  -- the slots of the elements of a super block
  pub in_super_block_lem : (s u k i : ℕ) → InBlock h s u k i → (first_slot h u ≤ s) × (s < first_slot h (u + 1))
  unfolding slot_in
  in_super_block_lem s u k i b =
      let lt = digits_lt b.block b.element in
      let e = b.slot in
      let n = next_slot h u in
      (omega arith, omega arith)

  -- element e behind the inline ones, counted through the data blocks of its super block
  pub element_in_block : (s e u : ℕ) → s ≡ h.idx_blk_elmts + e → u < super_blocks h → elements_before h u ≤ e → e < elements_before h (u + 1)
      → InBlock h s u ((e - elements_before h u) / block_elements h u) ((e - elements_before h u) % block_elements h u)
  unfolding slot_in first_slot
  element_in_block s e u q lt lo hi =
      let n = next_elements h u in
      let x = e - elements_before h u in
      let d = div-add-mod' x (block_elements h u) in
      let pos = elements_pos h v u in
      record { super = lt; block = (div-lt_iff_lt-mul pos).1 (omega arith); element = mod-lt x pos; slot = omega arith }

  pub super_block_slots : (s u : ℕ) → u < super_blocks h → first_slot h u ≤ s → s < first_slot h (u + 1) → (k : ℕ) × (i : ℕ) × InBlock h s u k i
  unfolding first_slot
  super_block_slots s u lt lo hi = (_, _, element_in_block s (s - h.idx_blk_elmts) u (omega arith) lt (omega arith) (omega arith))

  -- a slot behind the inline ones lies in the super block of its element, if there is one of that number
  pub slot_in_block : (s u : ℕ) → u ≡ super_of h (s - h.idx_blk_elmts) → h.idx_blk_elmts ≤ s → u < super_blocks h
      → let x = s - h.idx_blk_elmts - elements_before h u in
      (elements_before h u ≤ s - h.idx_blk_elmts) × InBlock h s u (x / block_elements h u) (x % block_elements h u)
  slot_in_block s u q ge lt =
      let e = s - h.idx_blk_elmts in
      let lo : elements_before h u ≤ e = rw q (super_lo e) in
      let hi : e < elements_before h (u + 1) = rw q (super_hi e (omega (arith, supers_few h v))) in
      (lo, element_in_block s e u (omega arith) lt lo hi)

  -- the place of an element of a block is the place of its slot
  pub place_in_of : (s u k i : ℕ) → InBlock h s u k i → PlaceOf h s (place_in h u k i)
  unfolding PlaceOf place_in
  place_in_of s u k i b = by_cond (λ (p : Place). PlaceOf h s p) (in_pages h u) (λ t. (b, t, refl, refl)) (λ t. (b, t))

  -- the place of a slot built from its super block, data block and element
  pub place_is : (s u k i : ℕ) → InBlock h s u k i → place h s ≡ place_in h u k i
  unfolding place in_super_block slot_in first_slot
  place_is s u k i b =
      let few = supers_few h v in
      let lt = digits_lt b.block b.element in
      let n = next_elements h u in
      let e = b.slot in
      let under = b.super in
      let x = s - h.idx_blk_elmts in
      let su : super_of h x ≡ u = super_is x u (omega arith) (omega arith) (omega arith) in
      let d : x - elements_before h u ≡ k * block_elements h u + i = omega arith in
      rw (le-ltb s h.idx_blk_elmts (omega arith), su, d, digits_div k b.element, digits_mod k b.element, lt-ltb u (super_blocks h) under) refl

  pub place_inline : (s : ℕ) → s < h.idx_blk_elmts → place h s ≡ Inline s
  unfolding place
  place_inline s t = rw (lt-ltb s h.idx_blk_elmts t) refl

  -- no slot past the last super block has a place
  pub place_past : (s : ℕ) → capacity h ≤ s → place h s ≡ Nowhere
  unfolding place in_super_block capacity first_slot
  place_past s t =
      let few = supers_few h v in
      let ge = super_ge (s - h.idx_blk_elmts) (super_blocks h) few (omega arith) in
      rw (le-ltb s h.idx_blk_elmts (omega arith), le-ltb (super_of h (s - h.idx_blk_elmts)) (super_blocks h) ge) refl

  -- the place of a slot is its place ..
  pub place_of_lem : (s : ℕ) → PlaceOf h s (place h s)
  unfolding PlaceOf place in_super_block capacity first_slot
  place_of_lem s =
      let e = s - h.idx_blk_elmts in
      let u = super_of h e in
      by_cond (λ (p : Place). PlaceOf h s p) (ltb s h.idx_blk_elmts) (λ t. (refl, ltb-true s h.idx_blk_elmts t)) (λ t.
      let ge = ltb-false s h.idx_blk_elmts t in
      by_cond (λ (p : Place). PlaceOf h s p) (ltb u (super_blocks h))
      (λ w. place_in_of s u _ _ (slot_in_block s u refl ge (ltb-true u (super_blocks h) w)).1)
      (λ w. omega (arith, super_lo e, elements_before_mono h (super_blocks h) u (ltb-false u (super_blocks h) w))))

  -- .. and no other is
  pub place_only : (s : ℕ) (p : Place) → PlaceOf h s p → p ≡ place h s
  unfolding PlaceOf place_in
  place_only s (Inline i) b = sym (place_inline s (omega arith) ∙ ap Inline b.0)
  place_only s (Block u k i) b = sym (place_is s u k i b.0 ∙ rw b.1 refl)
  place_only s (Page u k i p n) b = sym (place_is s u k i b.0 ∙ rw (b.1, b.3, b.2) refl)
  place_only s Nowhere b = sym (place_past s b)

  -- every slot below the capacity has one
  pub somewhere : (s : ℕ) → s < capacity h → place h s ≡ Nowhere → ⊥
  unfolding PlaceOf
  somewhere s lt e = let past : capacity h ≤ s = subst (λ (p : Place). PlaceOf h s p) e (place_of_lem s) in omega arith

  -- a page of a paged block has its number below the pages
  pub page_below : (u i : ℕ) → u < super_blocks h → in_pages h u ≡ true → i < block_elements h u → i / page_elements h < pages h u
  unfolding page_elements
  page_below u i lu t lt =
      (div-lt_iff_lt-mul (pow_pos h.max_dblk_nelmts_bits)).1 (omega (arith, pages-exact h v u lu (in_pages_over h u t)))
