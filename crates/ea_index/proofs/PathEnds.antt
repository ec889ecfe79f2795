-- Where the path to a slot ends, by what stepping into the structures on it has found. Assumes nothing.
use Prim.{tt}
use Prim.Native.Nat.{ℕ, ◌+◌, ◌/◌, ◌<◌, ◌≤◌}
use mathlib.Core.Path.{◌≡◌, refl, sym, ap, subst, ◌∙◌}
use mathlib.Core.Bool.{true, false}
use native.Mathlib.Omega.{arith}
use lib.ListN.{length}
use Rattle.std.specs.Prelude.{Err, None, Ok, Option, Some}
use Rattle.refusal.specs.Refusals.{Outcome}
use Rattle.refusal.specs.declared.Refusal.{Refusal}
use Rattle.fields.specs.Fields.{offset_size_test}
use Rattle.element_form.specs.Form.{element_size_test}
use Rattle.elements.specs.Elements.{Elements}
use Rattle.elements.proofs.Sized.{element_refused}
use Rattle.located.proofs.Paths.{LeadsTo, way_to}
use Rattle.ea_header.specs.declared.Parameters.{Parameters}
use Rattle.ea_header.specs.Values.{Served}
use Rattle.ea_geometry.specs.Sizes.{block_elements, page_elements}
use Rattle.ea_geometry.specs.Extents.{form_of, element_stride, element_at, inline_element_at, direct_pointers_at}
use Rattle.ea_geometry.specs.Extents.{block_prefix, block_element_at, page_at, page_extent, paged_element_at}
use Rattle.ea_geometry.specs.Place.{in_pages}
use Rattle.ea_geometry.specs.Slots.{InBlock}
use Rattle.ea_geometry.proofs.Places.{place_is, place_inline}
use Rattle.ea_geometry.proofs.Positions.{element_inside, inline_element_inside, paged_element_inside}
use Rattle.ea_blocks.specs.Array.{Array}
use Rattle.ea_blocks.specs.Structures.{array_test, block_at, data_page_at}
use Rattle.ea_blocks.specs.Values.{array_in}
use Rattle.ea_blocks.specs.Places.{position_of}
use Rattle.ea_blocks.specs.Entered.{EnteredSuper, EnteredBlock, EnteredPage}
use Rattle.ea_blocks.proofs.StructureTests.{array_passed, inline_inside}
use Rattle.ea_blocks.proofs.Entering.{entered_block_room, entered_page_room}
use Rattle.ea_walk.specs.Walk.{located}
use Rattle.ea_walk.proofs.Paths.{Ready, entered_ready, no_width, no_super, super_refused, no_block, block_refused, in_index}
use Rattle.ea_walk.proofs.Paths.{in_block_lem, in_clear, in_page, page_refused}
use Rattle.walked_index.specs.PathEnds.{end_answer}
use Rattle.walked_index.proofs.PathEnds.{ends_nowhere, ends_refused, ends_at}
use Rattle.ea_index.specs.declared.in_block.SlotInBlock.{SlotInBlock}
use Rattle.ea_index.proofs.InBlocks.{wide, placed}
use Rattle.ea_index.specs.Values.{ArrayEnds, BlockEntered}

-- a slot in a data block, where addresses have no width
pub narrow_ends : (a : Array) → Served a.parameters → (s u k i : ℕ) → InBlock a.parameters s u k i → (r : Refusal) → offset_size_test a.offset_size ≡ Err r
    → ArrayEnds a s (Err r)
narrow_ends a v s u k i b r t = ends_refused r (λ e. no_width a e u k i s (place_is a.parameters v s u k i b) r t)

-- .. and where they have one
module _ (x : SlotInBlock) where
  abbrev a : Array
  a = array_in x.array.array

  abbrev h : Parameters
  h = a.parameters

  abbrev o : ℕ
  o = a.offset_size

  abbrev Ends : Outcome (Option ℕ) → Type 0
  Ends = ArrayEnds a x.slot

  -- before its super block
  pub absent_super_ends : EnteredSuper a x.u (Ok None) → Ends (Ok None)
  absent_super_ends y = ends_nowhere (λ e. no_super a e x.u x.k x.i x.slot (wide x) (placed x) y.0 y.1)

  pub refused_super_ends : (r : Refusal) → EnteredSuper a x.u (Err r) → Ends (Err r)
  refused_super_ends r y =
      ends_refused r (λ e. super_refused a e x.u x.k x.i x.slot (wide x) (placed x) y.0 r y.1 y.2)

  module _ (super_at : Option ℕ) (w : EnteredSuper (array_in x.array.array) x.u (Ok (Some super_at))) where
    ready : Ready a x.u
    ready = entered_ready a x.u super_at w

    -- before its data block
    pub absent_block_ends : EnteredBlock a x.u x.k (Ok None) → Ends (Ok None)
    absent_block_ends y = ends_nowhere (λ e. no_block a e x.u x.k x.i x.slot (wide x) (placed x) ready y)

    pub refused_block_ends : (r : Refusal) → EnteredBlock a x.u x.k (Err r) → Ends (Err r)
    refused_block_ends r y =
        ends_refused r (λ e. block_refused a e x.u x.k x.i x.slot (wide x) (placed x) ready r y.0 y.1)

  module _ (super_at : Option ℕ) (at : ℕ) (t : BlockEntered (array_in x.array.array) x.u x.k super_at at) where
    abbrev r : Ready a x.u
    r = ready super_at t.super

    -- at a position behind the data block's own
    ends_behind : (n : ℕ) → ((e : Elements) → LeadsTo (located a e) x.slot (block_at a x.u x.k + n)) → at + n + element_stride h o ≤ length a.file
        → Ends (Ok (Some (at + n)))
    ends_behind n y room = ends_at (λ e. refl) _ (λ e. subst (λ (p : ℕ). LeadsTo (located a e) x.slot (p + n)) (sym t.block.2) (y e)) room

    -- in a block that is read unpaged
    module _ (q : in_pages x.array.array.extents.sizes.parameters x.u ≡ false) where
      pub unpaged_room : at + block_element_at h o x.i + element_stride h o ≤ length a.file
      unfolding block_element_at
      unpaged_room =
          omega (arith, entered_block_room a x.u at x.k t.block q, element_inside h o (block_prefix h o) x.i (block_elements h x.u) x.within.element)

      pub unpaged_ends : Ends (Ok (Some (at + block_element_at h o x.i)))
      unpaged_ends =
          ends_behind _ (λ e. in_block_lem a e x.u x.k x.i x.slot (wide x) (placed x) r t.block.0 t.block.1 q) unpaged_room

    -- in one that is read by pages: before its page, and in it
    module _ (q : in_pages x.array.array.extents.sizes.parameters x.u ≡ true) where
      abbrev Page : Outcome (Option ℕ) → Type 0
      Page = EnteredPage a x.u x.k (x.i / page_elements h)

      pub clear_page_ends : Page (Ok None) → Ends (Ok None)
      clear_page_ends y =
          ends_nowhere (λ e. in_clear a e x.u x.k x.i x.slot (wide x) (placed x) r t.block.0 t.block.1 q y)

      pub refused_page_ends : (z : Refusal) → Page (Err z) → Ends (Err z)
      refused_page_ends z y =
          ends_refused z (λ e. page_refused a e x.u x.k x.i x.slot (wide x) (placed x) r t.block.0 t.block.1 z q y.0 y.1)

      module _ (pos : ℕ) (y : Page (Ok (Some pos))) where
        pub paged_room : at + paged_element_at h o x.i + element_stride h o ≤ length a.file
        unfolding data_page_at page_extent element_at
        paged_room =
            let z : pos ≡ at + page_at h o (x.i / page_elements h) = y.2 ∙ rw t.block.2 refl in
            omega (arith, entered_page_room a x.u pos x.k (x.i / page_elements h) y, paged_element_inside h o x.i)

        pub paged_ends : Ends (Ok (Some (at + paged_element_at h o x.i)))
        paged_ends =
            ends_behind _ (λ e. in_page a e x.u x.k x.i x.slot (wide x) (placed x) r t.block.0 t.block.1 q y.0 y.1) paged_room

-- an inline slot, whether the size of elements passes its test or not
module _ (a : Array) (t : array_test a ≡ Ok tt) (s : ℕ) (lt : s < a.parameters.idx_blk_elmts) where
  abbrev pos : ℕ
  pos = a.index_at + inline_element_at a.parameters a.offset_size s

  leads : (e : Elements) → LeadsTo (located a e) s pos
  unfolding position_of
  leads e = in_index a e s (place_inline a.parameters (array_passed a t).0 s lt)

  pub inline_room : pos + element_stride a.parameters a.offset_size ≤ length a.file
  unfolding direct_pointers_at
  inline_room =
      omega (arith, inline_inside a (array_passed a t).1, inline_element_inside a.parameters a.offset_size s lt)

  pub inline_ends : ArrayEnds a s (Ok (Some pos))
  inline_ends = ends_at (λ e. refl) _ leads inline_room

  pub unsized_ends : (r : Refusal) → element_size_test (form_of a.parameters a.offset_size) ≡ Err r → ArrayEnds a s (Err r)
  unfolding end_answer
  unsized_ends r z = record {
    answer = λ e form.
        way_to (located a e) s _ (leads e) ∙ element_refused e _ s r (ap element_size_test (sym form) ∙ z);
    inside = tt;
  }
