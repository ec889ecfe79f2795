-- The run that a slot of a fixed array begins, where the path to it is accepted: by whether the data block is stored,
-- and whether its page is set. Assumes nothing.
use Prim.Native.Nat.{ℕ, ◌+◌, ◌-◌, ◌*◌, ◌<◌}
use mathlib.Core.Path.{◌≡◌, ap}
use mathlib.Core.Bool.{true, false}
use native.Mathlib.Omega.{arith}
use Rattle.std.specs.Prelude.{Ok}
use Rattle.element_form.specs.Form.{stride}
use Rattle.elements.specs.Elements.{Elements}
use Rattle.located.specs.declared.Run.{Run}
use Rattle.located.specs.declared.Run.TheVariants.{Gap, Elements as Present}
use Rattle.located.specs.Values.{RunOf}
use Rattle.located.proofs.Runs.{gap_from, run_from}
use Rattle.fa_header.specs.declared.FixedArrayHeader.{FixedArrayHeader}
use Rattle.fa_geometry.specs.Layout.{fixed_form, fixed_stride, fixed_page_elements, is_paged, page_entries, page_of_slot}
use Rattle.fa_blocks.specs.FixedArray.{FixedArray, never_stored}
use Rattle.fa_blocks.specs.Blocks.{fixed_page_set, fixed_page_test, fixed_page_position, fixed_position}
use Rattle.fa_walk.specs.Walk.{fixed_located}
use Rattle.fa_walk.proofs.Room.{elements_inside, entries_inside}
use Rattle.fa_walk.proofs.Paths.{never_stored_lem}
use Rattle.fa_walk.proofs.Passed.{block_passed, page_passed}
use Rattle.fa_walk.proofs.Slots.{block_slots_lem, clear_slot, set_slot}
use Rattle.fa_index.specs.Given.{TestedTo}
use Rattle.fa_index.proofs.Positions.{element_at_lem, page_of, within, slot_is, within_entries}

module _ (a : FixedArray) (s : ℕ) (t : TestedTo a s) where
  abbrev h : FixedArrayHeader
  h = a.header

  abbrev st : ℕ
  st = fixed_stride a.header a.offset_size

  -- the slots from s on are such a run, whatever elements of the array's form its file holds
  abbrev RunIn : Run → Type 0
  RunIn run = (e : Elements) → e.file ≡ a.file → fixed_form a.header a.offset_size ≡ e.form → RunOf (fixed_located a e) s run

  pub never_run : never_stored a ≡ true → RunIn (Gap (a.header.num_elements - s))
  never_run n = λ e file form. (omega (arith, t.entry), λ i lt. (never_stored_lem a e (s + i) n).reach)

  module _ (n : never_stored a ≡ false) where
    -- in a data block that is read unpaged
    pub block_run : is_paged a.header ≡ false → RunIn (Present (fixed_position a s) (a.header.num_elements - s))
    block_run q = λ e file form.
        run_from (fixed_located a e) a.file file 0 a.header.num_elements s s t.entry (omega arith) _ _
        (rw (← form) (element_at_lem a q s)) (rw (← form) (elements_inside a (block_passed a s n t.tests) q)) (λ j lt. block_slots_lem a e form n (block_passed a s n t.tests) q j)

    -- in a page
    module _ (q : is_paged a.header ≡ true) where
      abbrev p : ℕ
      p = page_of h s

      few : (j : ℕ) → j < page_entries h p → j < fixed_page_elements h
      unfolding page_entries
      few j lt = omega arith

      pub page_gap : fixed_page_set a p ≡ false → RunIn (Gap (page_entries h p - within h s))
      page_gap b = λ e file form.
          gap_from (fixed_located a e) (p * fixed_page_elements h) (page_entries h p) (within h s) s (within_entries h s t.entry) (slot_is h s)
          (λ j lt. clear_slot a e form n (block_passed a s n t.tests) q p j (few j lt) b)

      module _ (b : fixed_page_set a (page_of a.header s) ≡ true) where
        pub page_tested : fixed_page_test a p ≡ Ok tt
        unfolding page_of_slot
        page_tested = page_passed a s n t.tests q b

        pub page_run : RunIn (Present (fixed_page_position a p + within h s * st) (page_entries h p - within h s))
        page_run = λ e file form.
            run_from (fixed_located a e) a.file file (p * fixed_page_elements h) (page_entries h p) (within h s) s (within_entries h s t.entry) (slot_is h s) _ _
            (ap (λ (n : ℕ). fixed_page_position a p + within h s * n) (ap stride form)) (rw (← form) (entries_inside a p page_tested))
            (λ j lt. set_slot a e form n (block_passed a s n t.tests) q p j (few j lt) b page_tested)
