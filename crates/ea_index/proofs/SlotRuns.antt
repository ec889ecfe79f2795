-- The run that a slot begins, by its place and by what the pointers to it say. Assumes nothing.
use Prim.Native.Nat.{ℕ, ◌+◌, ◌-◌, ◌*◌, ◌/◌, ◌%◌, ◌<◌, ◌≤◌}
use mathlib.Core.Path.{◌≡◌, refl, sym, ap, subst, ◌∙◌}
use mathlib.Core.Bool.{true, false, not, ◌&&◌}
use mathlib.Core.List.{[]}
use mathlib.Core.Logic.{⊎_elim}
use native.Mathlib.Omega.{arith}
use native.Mathlib.Nat.{mod-lt, div-add-mod'}
use lib.Arith.{digits_lt}
use lib.ListN.{length}
use lib.Pow.{pow_pos}
use Rattle.std.specs.Prelude.{None, Ok, Option, Some}
use Rattle.chunk_grid.specs.declared.GridOrder.TheVariants.{RowMajor}
use Rattle.chunk_grid.specs.Grid.{given}
use Rattle.element_form.specs.Form.{stride}
use Rattle.elements.specs.Elements.{Elements}
use Rattle.elements.proofs.Induction.{PagesAt}
use Rattle.located.specs.declared.Run.{Run}
use Rattle.located.specs.declared.Run.TheVariants.{Gap, Elements as Present}
use Rattle.located.proofs.Paths.{LeadsTo, LeadsNowhere}
use Rattle.located.proofs.Runs.{gap_from, run_from}
use Rattle.ea_header.specs.declared.Parameters.{Parameters}
use Rattle.ea_geometry.specs.Sizes.{blocks, block_elements, page_elements, pages}
use Rattle.ea_geometry.specs.Extents.{form_of, inline_element_at, direct_pointers_at, block_element_at, paged_element_at}
use Rattle.ea_geometry.specs.Place.{in_pages, place_in}
use Rattle.ea_geometry.specs.Slots.{first_slot, capacity, slot_in}
use Rattle.ea_geometry.proofs.Places.{next_slot}
use Rattle.ea_geometry.proofs.Positions.{direct_pointers_inside, super_pointers_inside}
use Rattle.ea_blocks.specs.declared.ArrayInFile.{ArrayInFile}
use Rattle.ea_blocks.specs.Array.{Array}
use Rattle.ea_blocks.specs.Values.{array_in}
use Rattle.ea_blocks.specs.Structures.{pages_of, is_direct, super_block_at, block_at, data_page_at, super_undefined, block_undefined, page_set}
use Rattle.ea_blocks.specs.Places.{place_test}
use Rattle.ea_blocks.specs.Entered.{EnteredSuper}
use Rattle.ea_blocks.proofs.StructureTests.{page_inside}
use Rattle.ea_blocks.proofs.Entering.{entered_block_room}
use Rattle.ea_walk.specs.Walk.{located}
use Rattle.ea_walk.proofs.Paths.{Ready, entered_ready}
use Rattle.ea_walk.proofs.Slots.{inline_at, block_at_lem, page_at_lem, inline_slots, past_slots, super_slots, undefined_slots, block_slots_lem, page_slots}
use Rattle.ea_walk.proofs.Passed.{super_passed, block_passed, page_passed}
use Rattle.ea_index.specs.declared.in_block.SlotInBlock.{SlotInBlock}
use Rattle.ea_index.proofs.InBlocks.{served, wide, placed, page_within}
use Rattle.ea_index.specs.Values.{PathTested, BlockEntered, RunIn, slots_of, block_slots}

-- a run's elements begin in the file
pub run_room : (a : Array) (s pos n : ℕ) → RunIn a s (Present pos n) → pos ≤ length a.file
run_room a s pos n r =
    let x = (r (record {
      file = a.file;
      form = form_of a.parameters a.offset_size;
      grid = given 0 [] [] false [] RowMajor;
      element_bytes = 0;
      count = 0;
    }) refl refl).1 in
    omega arith

-- an array in a file
module _ (b : ArrayInFile) (s : ℕ) where
  abbrev a : Array
  a = array_in b.array

  abbrev h : Parameters
  h = a.parameters

  abbrev o : ℕ
  o = a.offset_size

  -- inline elements lie in the index block
  pub inline_run : s < h.idx_blk_elmts → RunIn a s (Present (a.index_at + inline_element_at h o s) (h.idx_blk_elmts - s))
  unfolding direct_pointers_at
  inline_run lt = λ e file form.
      run_from (located a e) a.file file 0 h.idx_blk_elmts s s lt (omega arith) _ _ (inline_at a e form s)
      (rw (← inline_at a e form h.idx_blk_elmts) (omega (arith, b.inside, direct_pointers_inside h o, super_pointers_inside h o)))
      (inline_slots a e form b.array.extents.sizes.served)

  pub nowhere_run : (n : ℕ) → 0 < n → capacity h ≤ s → RunIn a s (Gap n)
  nowhere_run n lt le = λ e file form. (lt, λ j k. (past_slots a e form b.array.extents.sizes.served s le j).reach)

-- a slot in a data block: its run, and how many slots that has
module _ (x : SlotInBlock) where
  abbrev ax : Array
  ax = array_in x.array.array

  abbrev hx : Parameters
  hx = ax.parameters

  abbrev ox : ℕ
  ox = ax.offset_size

  abbrev Runs : Run → Type 0
  Runs r = RunIn ax x.slot r × (slots_of r ≡ block_slots ax x.slot x.u x.k x.i)

  -- the first slot of the data block
  abbrev first : ℕ
  first = first_slot hx x.u + x.k * block_elements hx x.u

  slot_is : x.slot ≡ first + x.i
  unfolding slot_in
  slot_is = let e = x.within.slot in omega arith

  -- the super block's pointer is undefined
  pub super_gap : EnteredSuper ax x.u (Ok None) → Runs (Gap (first_slot hx (x.u + 1) - x.slot))
  unfolding slots_of block_slots
  super_gap y = (
    λ e file form.
        let lt = digits_lt x.within.block x.within.element in
        let z : first_slot hx (x.u + 1) - x.slot ≡ blocks x.u * block_elements hx x.u - (x.k * block_elements hx x.u + x.i) = omega (arith, next_slot hx x.u, slot_is) in
        rw z
        (gap_from (located ax e) (first_slot hx x.u) (blocks x.u * block_elements hx x.u) (x.k * block_elements hx x.u + x.i) x.slot lt (omega (arith, slot_is))
        (super_slots ax e form (served x) (wide x) x.u x.within.super y.0 y.1)),
    rw (y.0, y.1) refl,
  )

  module _ (t : PathTested (array_in x.array.array) x.slot) where
    tests : place_test ax (place_in hx x.u x.k x.i) ≡ Ok tt
    tests = ap (place_test ax) (sym (placed x)) ∙ t

    -- .. or says where the super block lies
    pub super_entered : (at : ℕ) → is_direct ax x.u ≡ false → super_undefined ax x.u ≡ false → at ≡ super_block_at ax x.u → EnteredSuper ax x.u (Ok (Some (Some at)))
    super_entered at d w e = (d, w, super_passed ax x.u x.k x.i tests d w, e)

    module _ (super_at : Option ℕ) (w : EnteredSuper (array_in x.array.array) x.u (Ok (Some super_at))) where
      ready : Ready ax x.u
      ready = entered_ready ax x.u super_at w

      defined : not (is_direct ax x.u) && super_undefined ax x.u ≡ false
      defined = ⊎_elim (λ (d : is_direct ax x.u ≡ true). rw d refl) (λ d. rw (d.0, d.1) refl) ready.named

      -- the data block's
      pub block_gap : block_undefined ax x.u x.k ≡ true → Runs (Gap (block_elements hx x.u - x.i))
      unfolding slots_of block_slots
      block_gap y = (
        λ e file form.
            gap_from (located ax e) first (block_elements hx x.u) x.i x.slot x.within.element slot_is
            (undefined_slots ax e form (served x) (wide x) x.u x.within.super ready x.k first x.within.block refl y),
        rw (defined, y) refl,
      )

      pub block_entered : (at : ℕ) → block_undefined ax x.u x.k ≡ false → at ≡ block_at ax x.u x.k → BlockEntered ax x.u x.k super_at at
      block_entered at y e = record { super = w; block = (y, block_passed ax x.u x.k x.i tests ready y, e) }

    module _ (super_at : Option ℕ) (at : ℕ) (y : BlockEntered (array_in x.array.array) x.u x.k super_at at) where
      abbrev there : block_undefined ax x.u x.k ≡ false
      there = y.block.0

      abbrev r : Ready ax x.u
      r = ready super_at y.super

      -- in a block that is read unpaged
      pub block_run : in_pages hx x.u ≡ false → Runs (Present (at + block_element_at hx ox x.i) (block_elements hx x.u - x.i))
      unfolding slots_of block_slots
      block_run q = (
        λ e file form.
            run_from (located ax e) ax.file file first (block_elements hx x.u) x.i x.slot x.within.element slot_is _ _ (rw y.block.2 (block_at_lem ax e form x.u x.k x.i))
            (rw (← block_at_lem ax e form x.u x.k (block_elements hx x.u)) (subst (λ (z : ℕ). z + block_element_at hx ox (block_elements hx x.u) ≤ length ax.file) y.block.2 (entered_block_room ax x.u at x.k y.block q)))
            (block_slots_lem ax e form (served x) (wide x) x.u x.within.super r x.k first x.within.block refl there y.block.1 q),
        rw (defined super_at y.super, there, q) refl,
      )

      -- in a page
      module _ (q : in_pages x.array.array.extents.sizes.parameters x.u ≡ true) where
        abbrev pe : ℕ
        pe = page_elements hx

        abbrev begin : ℕ
        begin = first + x.i / pe * pe

        inside : x.i % pe < pe
        unfolding page_elements
        inside = mod-lt x.i (pow_pos hx.max_dblk_nelmts_bits)

        slot_in_lem : x.slot ≡ begin + x.i % pe
        slot_in_lem = omega (arith, slot_is, div-add-mod' x.i pe)

        assoc : (j : ℕ) → first + (x.i / pe * pe + j) ≡ begin + j
        assoc j = omega arith

        left : pe - x.i % pe ≡ block_slots ax x.slot x.u x.k x.i
        unfolding block_slots
        left = rw (defined super_at y.super, there, q) refl

        module _ (e : Elements) (form : form_of x.array.array.extents.sizes.parameters x.array.array.extents.offset_size ≡ e.form) where
          slots : PagesAt (LeadsTo (located ax e)) (LeadsNowhere (located ax e)) (stride e.form) (pages_of ax x.u x.k) (pages hx x.u) first
          slots = page_slots ax e form (served x) (wide x) x.u x.within.super r x.k first x.within.block refl there y.block.1 q

        pub page_gap : page_set ax x.u x.k (x.i / pe) ≡ false → Runs (Gap (pe - x.i % pe))
        unfolding slots_of
        page_gap c = (
          λ e file form.
              gap_from (located ax e) begin pe (x.i % pe) x.slot inside slot_in_lem
              (λ j l. subst (LeadsNowhere (located ax e)) (assoc j) ((slots e form).clear (x.i / pe) j (page_within x q) l c)),
          left,
        )

        pub page_run : page_set ax x.u x.k (x.i / pe) ≡ true → Runs (Present (at + paged_element_at hx ox x.i) (pe - x.i % pe))
        unfolding slots_of
        page_run c = (
          λ e file form.
              let d = page_passed ax x.u x.k x.i tests r there q c in
              run_from (located ax e) ax.file file begin pe (x.i % pe) x.slot inside slot_in_lem _ _ (rw y.block.2 (page_at_lem ax e form x.u x.k x.i))
              (let z = page_inside ax x.u x.k (x.i / pe) d in subst (λ (n : ℕ). data_page_at ax x.u x.k (x.i / pe) + pe * n ≤ length ax.file) (ap stride form) (omega arith))
              (λ j l. subst (λ (z : ℕ). LeadsTo (located ax e) z (data_page_at ax x.u x.k (x.i / pe) + j * stride e.form)) (assoc j) ((slots e form).set (x.i / pe) j (page_within x q) l c d)),
          left,
        )
