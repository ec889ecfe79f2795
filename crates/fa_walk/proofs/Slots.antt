-- Where the slots of a stored fixed array lead, whose data block has passed its test: an unpaged one's, and by pages.
-- Assumes nothing.
use Prim.Native.Nat.{ℕ, ◌+◌, ◌*◌, ◌<◌}
use mathlib.Core.Path.{◌≡◌, ap, subst, ◌∙◌}
use mathlib.Core.Bool.{true, false}
use native.Mathlib.Omega.{arith}
use Rattle.std.specs.Prelude.{Ok}
use Rattle.element_form.specs.Form.{stride}
use Rattle.elements.specs.Elements.{Elements}
use Rattle.elements.proofs.Induction.{PagesAt}
use Rattle.located.proofs.Paths.{LeadsTo, LeadsNowhere}
use Rattle.fa_geometry.specs.Layout.{fixed_form, fixed_page_elements, is_paged, fixed_pages, fixed_element_at, page_of_slot}
use Rattle.fa_geometry.proofs.Pages.{page_of_lem, paged_place, unpaged_place}
use Rattle.fa_blocks.specs.FixedArray.{FixedArray, fixed_block_at, never_stored}
use Rattle.fa_blocks.specs.Blocks.{fixed_block_test, fixed_page_position, fixed_page_set, fixed_page_test, fixed_pages_of, fixed_position}
use Rattle.fa_walk.specs.Walk.{fixed_located}
use Rattle.fa_walk.proofs.Paths.{in_block_lem, in_clear, in_page}

-- elements in the array's form
module _ (a : FixedArray) (e : Elements) (form : fixed_form a.header a.offset_size ≡ e.form) where
  abbrev Lead : ℕ → ℕ → Type 0
  Lead = LeadsTo (fixed_located a e)

  abbrev Miss : ℕ → Type 0
  Miss = LeadsNowhere (fixed_located a e)

  -- element i of an unpaged data block, and of page p: they follow each other by their stride
  abbrev pub element_at : ℕ → ℕ
  element_at i = fixed_block_at a + fixed_element_at a.header a.offset_size 0 + i * stride e.form

  abbrev pub paged_at : ℕ → ℕ → ℕ
  paged_at p i = fixed_page_position a p + i * stride e.form

  element_at_lem : (i : ℕ) → is_paged a.header ≡ false → fixed_position a i ≡ element_at i
  unfolding fixed_position
  element_at_lem i q = let x = unpaged_place a.header a.offset_size i q in rw (← form) (omega arith)

  paged_at_lem : (p i : ℕ) → i < fixed_page_elements a.header → is_paged a.header ≡ true → fixed_position a (p * fixed_page_elements a.header + i) ≡ paged_at p i
  unfolding fixed_position fixed_page_position
  paged_at_lem p i lt q = let x = paged_place a.header p i lt a.offset_size q in rw (← form) (omega arith)

  module _ (n : never_stored a ≡ false) (t : fixed_block_test a ≡ Ok tt) where
    pub block_slots_lem : is_paged a.header ≡ false → (i : ℕ) → Lead (0 + i) (element_at i)
    block_slots_lem q i =
        let z : i ≡ 0 + i = omega arith in
        subst (λ (s : ℕ). Lead s (element_at i)) z (subst (Lead i) (element_at_lem i q) (in_block_lem a e i n t q))

    module _ (q : is_paged a.header ≡ true) where
      module _ (p i : ℕ) (lt : i < fixed_page_elements a.header) where
        abbrev slot : ℕ
        slot = p * fixed_page_elements a.header + i

        of_page : page_of_slot a.header slot ≡ p
        unfolding page_of_slot
        of_page = page_of_lem a.header p i lt

        pub clear_slot : fixed_page_set a p ≡ false → Miss slot
        clear_slot b = in_clear a e slot n t q (ap (fixed_page_set a) of_page ∙ b)

        pub set_slot : fixed_page_set a p ≡ true → fixed_page_test a p ≡ Ok tt → Lead slot (paged_at p i)
        set_slot b d =
            subst (Lead slot) (paged_at_lem p i lt q) (in_page a e slot n t q (ap (fixed_page_set a) of_page ∙ b) (ap (fixed_page_test a) of_page ∙ d))

        from_zero : slot ≡ 0 + slot
        from_zero = omega arith

      pub page_slots : PagesAt Lead Miss (stride e.form) (fixed_pages_of a) (fixed_pages a.header) 0
      page_slots = record {
        clear = λ p i hp lt b. subst Miss (from_zero p i lt) (clear_slot p i lt b);
        set = λ p i hp lt b d. subst (λ (s : ℕ). Lead s (paged_at p i)) (from_zero p i lt) (set_slot p i lt b d);
      }
