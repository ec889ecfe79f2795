-- Where the slots of each structure of an array lead: the inline ones, those of a super block or data block that isn't
-- there, those of a data block, and those that have no place. Assumes nothing.
use Prim.Native.Nat.{ℕ, ◌+◌, ◌*◌, ◌/◌, ◌%◌, ◌<◌, ◌≤◌}
use mathlib.Core.Path.{◌≡◌, refl, ap, subst, ◌∙◌}
use mathlib.Core.Bool.{true, false}
use native.Mathlib.Omega.{arith}
use native.Mathlib.Nat.{div-lt_iff_lt-mul, mod-lt, div-add-mod'}
use lib.Arith.{digits_lt, digits_div, digits_mod}
use Rattle.std.specs.Prelude.{Ok}
use Rattle.fields.specs.Fields.{offset_size_test}
use Rattle.element_form.specs.Form.{stride}
use Rattle.elements.specs.Elements.{Elements}
use Rattle.elements.proofs.Induction.{PagesAt}
use Rattle.located.proofs.Paths.{LeadsTo, LeadsNowhere}
use Rattle.ea_header.specs.declared.Parameters.{Parameters}
use Rattle.ea_header.specs.Values.{Served}
use Rattle.ea_geometry.specs.Sizes.{super_blocks, blocks, block_elements, page_elements, pages}
use Rattle.ea_geometry.specs.Extents.{form_of, element_at, index_prefix, inline_element_at, block_prefix, block_element_at, paged_element_at, page_at}
use Rattle.ea_geometry.specs.Place.{in_pages, place_in, place}
use Rattle.ea_geometry.specs.Slots.{first_slot, capacity, slot_in}
use Rattle.ea_geometry.proofs.Counts.{elements_pos, pages-exact}
use Rattle.ea_geometry.proofs.Places.{in_pages_over, place_is, place_inline, place_past}
use Rattle.ea_blocks.specs.Array.{Array}
use Rattle.ea_blocks.specs.Structures.{data_block, data_page, test_of, pages_of, is_direct, block_at, data_page_at, super_undefined, block_undefined, page_set}
use Rattle.ea_blocks.specs.Places.{position_of}
use Rattle.ea_walk.specs.Walk.{located}
use Rattle.ea_walk.proofs.Paths.{Ready, no_super, no_block, in_block_lem, in_clear, in_page, in_index, no_place}

-- the slots of data block k of super block u begin at s
abbrev pub Begins : Parameters → ℕ → ℕ → ℕ → Type 0
Begins h u k s = s ≡ first_slot h u + k * block_elements h u

-- elements in the array's form
module _ (a : Array) (e : Elements) (form : form_of a.parameters a.offset_size ≡ e.form) where
  abbrev h : Parameters
  h = a.parameters

  abbrev o : ℕ
  o = a.offset_size

  abbrev st : ℕ
  st = stride e.form

  abbrev Lead : ℕ → ℕ → Type 0
  Lead = LeadsTo (located a e)

  abbrev Miss : ℕ → Type 0
  Miss = LeadsNowhere (located a e)

  -- they follow each other by its stride: those of the index block, of an unpaged data block, and of a page
  spaced : (first i : ℕ) → element_at h o first i ≡ first + i * st
  unfolding element_at
  spaced first i = ap (λ (n : ℕ). first + i * n) (ap stride form)

  pub inline_at : (i : ℕ) → a.index_at + inline_element_at h o i ≡ a.index_at + inline_element_at h o 0 + i * st
  unfolding inline_element_at
  inline_at i = omega (arith, spaced (index_prefix o) i, spaced (index_prefix o) 0)

  pub block_at_lem : (u k i : ℕ) → block_at a u k + block_element_at h o i ≡ block_at a u k + block_element_at h o 0 + i * st
  unfolding block_element_at
  block_at_lem u k i = omega (arith, spaced (block_prefix h o) i, spaced (block_prefix h o) 0)

  pub page_at_lem : (u k i : ℕ) → block_at a u k + paged_element_at h o i ≡ data_page_at a u k (i / page_elements h) + i % page_elements h * st
  unfolding data_page_at paged_element_at
  page_at_lem u k i = omega (arith, spaced (page_at h o (i / page_elements h)) (i % page_elements h))

  module _ (v : Served a.parameters) where
    pub inline_slots : (i : ℕ) → i < h.idx_blk_elmts → Lead (0 + i) (a.index_at + inline_element_at h o 0 + i * st)
    unfolding position_of
    inline_slots i lt =
        let z : i ≡ 0 + i = omega arith in
        subst (λ (n : ℕ). Lead n (a.index_at + inline_element_at h o 0 + i * st)) z (subst (Lead i) (inline_at i) (in_index a e i (place_inline h v i lt)))

    pub past_slots : (s : ℕ) → capacity h ≤ s → (i : ℕ) → Miss (s + i)
    past_slots s le i = no_place a e (s + i) (place_past h v (s + i) (omega arith))

    module _ (wide : offset_size_test a.offset_size ≡ Ok tt) (u : ℕ) (hu : u < super_blocks a.parameters) where
      place_at : (k i s : ℕ) → k < blocks u → i < block_elements h u → Begins h u k s → place h (s + i) ≡ place_in h u k i
      unfolding slot_in
      place_at k i s hk hi b =
          let z : s + i ≡ first_slot h u + (k * block_elements h u + i) = omega arith in
          place_is h v (s + i) u k i (record { super = hu; block = hk; element = hi; slot = z })

      -- the super block's pointer undefined
      pub super_slots : is_direct a u ≡ false → super_undefined a u ≡ true → (i : ℕ) → i < blocks u * block_elements h u → Miss (first_slot h u + i)
      super_slots d t i hi =
          let n = block_elements h u in
          let w = elements_pos h v u in
          let q : i / n < blocks u = (div-lt_iff_lt-mul w).1 hi in
          let z : first_slot h u + i / n * n + i % n ≡ first_slot h u + i = (let m = div-add-mod' i n in omega arith) in
          subst Miss z (no_super a e u (i / n) (i % n) _ wide (place_at (i / n) (i % n) (first_slot h u + i / n * n) q (mod-lt i w) refl) d t)

      module _ (r : Ready a u) (k s : ℕ) (hk : k < blocks u) (hs : Begins a.parameters u k s) where
        -- the data block's pointer undefined
        pub undefined_slots : block_undefined a u k ≡ true → (i : ℕ) → i < block_elements h u → Miss (s + i)
        undefined_slots t i hi = no_block a e u k i (s + i) wide (place_at k i s hk hi hs) r t

        module _ (t : block_undefined a u k ≡ false) (p : test_of a (data_block u k) ≡ Ok tt) where
          -- the data block read unpaged
          pub block_slots_lem : in_pages h u ≡ false → (i : ℕ) → i < block_elements h u → Lead (s + i) (block_at a u k + block_element_at h o 0 + i * st)
          block_slots_lem q i hi = subst (Lead (s + i)) (block_at_lem u k i) (in_block_lem a e u k i (s + i) wide (place_at k i s hk hi hs) r t p q)

          -- and by pages
          module _ (q : in_pages a.parameters u ≡ true) where
            abbrev pe : ℕ
            pe = page_elements h

            placed : (g i : ℕ) → g < pages h u → i < pe → place h (s + (g * pe + i)) ≡ place_in h u k (g * pe + i)
            placed g i hg hi =
                place_at k (g * pe + i) s hk (subst (λ (n : ℕ). g * pe + i < n) (pages-exact h v u hu (in_pages_over h u q)) (digits_lt hg hi)) hs

            clear : (g i : ℕ) → g < pages h u → i < pe → page_set a u k g ≡ false → Miss (s + (g * pe + i))
            clear g i hg hi b = in_clear a e u k (g * pe + i) _ wide (placed g i hg hi) r t p q (rw (digits_div g hi) b)

            set : (g i : ℕ) → g < pages h u → i < pe → page_set a u k g ≡ true → test_of a (data_page u k g) ≡ Ok tt → Lead (s + (g * pe + i)) (data_page_at a u k g + i * st)
            set g i hg hi b d =
                let w = in_page a e u k (g * pe + i) _ wide (placed g i hg hi) r t p q (rw (digits_div g hi) b) (rw (digits_div g hi) d) in
                let z : data_page_at a u k ((g * pe + i) / pe) + (g * pe + i) % pe * st ≡ data_page_at a u k g + i * st = rw (digits_div g hi, digits_mod g hi) refl in
                subst (Lead (s + (g * pe + i))) (page_at_lem u k (g * pe + i) ∙ z) w

            pub page_slots : PagesAt Lead Miss (stride e.form) (pages_of a u k) (pages h u) s
            page_slots = record { clear = clear; set = set }
