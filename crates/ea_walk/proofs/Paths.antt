-- Where the path to a slot of the array leads, whose super block and data block are ready. Assumes nothing.
use Prim.Native.Nat.{ℕ, ◌+◌, ◌/◌}
use mathlib.Core.Path.{◌≡◌, refl, sym, ap, ◌∙◌}
use mathlib.Core.Bool.{true, false, not, cond}
use mathlib.Core.List.{List, [], ◌∷◌}
use mathlib.Core.Logic.{◌⊎◌, inl, inr, ⊎_elim}
use Rattle.std.specs.Prelude.{Err, None, Ok, Option, Some}
use Rattle.refusal.specs.declared.Refusal.{Refusal}
use Rattle.refusal.specs.Refusals.{◌then◌, Checked}
use Rattle.refusal.proofs.Tests.{by_cond, then_first, then_second}
use Rattle.fields.specs.Fields.{offset_size_test}
use Rattle.elements.specs.Elements.{Elements}
use Rattle.located.proofs.Paths.{LeadsTo, LeadsNowhere}
use Rattle.ea_geometry.specs.Sizes.{page_elements}
use Rattle.ea_geometry.specs.Extents.{block_element_at, paged_element_at}
use Rattle.ea_geometry.specs.Place.{in_pages, place_in, place}
use Rattle.ea_geometry.specs.declared.Place.{Place}
use Rattle.ea_geometry.specs.declared.Place.TheVariants.{Inline, Nowhere}
use Rattle.ea_blocks.specs.Array.{Array}
use Rattle.ea_blocks.specs.Entered.{EnteredSuper}
use Rattle.ea_blocks.specs.Structures.{Structure, super_block, data_block, data_page, test_of, is_direct, block_at, super_undefined, block_undefined, page_set}
use Rattle.ea_blocks.specs.Places.{block_reached, reached, position_of, leading_to, structures, pointer_test, tested, place_test}
use Rattle.ea_walk.specs.Walk.{located}

-- super block u's data blocks can be read: the index block names them, or the super block has passed its test
pub record Ready (a : Array) (u : ℕ) : Type 0 where
  pub named : (is_direct a u ≡ true) ⊎ ((is_direct a u ≡ false) × (super_undefined a u ≡ false) × (test_of a (super_block u) ≡ Ok tt))

pub entered_ready : (a : Array) (u : ℕ) (super : Option ℕ) → EnteredSuper a u (Ok (Some super)) → Ready a u
entered_ready a u None w = record { named = inl w }
entered_ready a u (Some at) w = record { named = inr (w.0, w.1, w.2) }

module _ (a : Array) (u k : ℕ) (r : Ready a u) where
  pub ready_tested : (inner : List Structure) → tested a (leading_to a u k inner) ≡ tested a (cond (block_undefined a u k) [] (data_block u k ∷ inner))
  unfolding leading_to tested ◌then◌
  ready_tested inner = ⊎_elim (λ (d : is_direct a u ≡ true). rw d refl) (λ d. rw (d.0, d.1, d.2) refl) r.named

  pub ready_reached : block_reached a u k ≡ not (block_undefined a u k)
  unfolding block_reached
  ready_reached = ⊎_elim (λ (d : is_direct a u ≡ true). rw d refl) (λ d. rw (d.0, d.1) refl) r.named

  -- the way to a place, the block's pointer undefined
  tested-undefined : block_undefined a u k ≡ true → (inner : List Structure) → tested a (leading_to a u k inner) ≡ Ok tt
  unfolding tested
  tested-undefined t inner = ready_tested inner ∙ rw t refl

  -- and defined, its test passed
  tested_defined : block_undefined a u k ≡ false → test_of a (data_block u k) ≡ Ok tt → (inner : List Structure)
      → tested a (leading_to a u k inner) ≡ tested a inner
  unfolding tested ◌then◌
  tested_defined t p inner = ready_tested inner ∙ rw (t, p) refl

-- a slot whose place is element i of data block k of super block u
module _ (a : Array) (e : Elements) (u k i s : ℕ) (z : place a.parameters s ≡ place_in a.parameters u k i) where
  -- what leads to it: pointers, the super block and the data block, then what is in that
  leading : (inner : List Structure) × ((located a e).tests s ≡ offset_size_test a.offset_size then tested a (leading_to a u k inner))
  unfolding place_test pointer_test structures place_in
  leading =
      let w = by_cond
      (λ (p : Place). (inner : List Structure) × (place_test a p ≡ offset_size_test a.offset_size then tested a (leading_to a u k inner)))
      (in_pages a.parameters u) (λ q. (_, refl)) (λ q. ([], refl)) in
      (w.0, ap (place_test a) z ∙ w.1)

  gone : block_reached a u k ≡ false → (located a e).reached s ≡ false
  unfolding reached place_in
  gone g = ap (reached a) z ∙ by_cond (λ (p : Place). reached a p ≡ false) (in_pages a.parameters u) (λ q. rw g refl) (λ q. rw g refl)

  -- its pointers of no width
  pub no_width : (r : Refusal) → offset_size_test a.offset_size ≡ Err r → (located a e).tests s ≡ Err r
  no_width r t = leading.1 ∙ sym (then_first _ _ (sym t))

-- its pointers of a width
module _ (a : Array) (e : Elements) (u k i s : ℕ) (wide : offset_size_test a.offset_size ≡ Ok tt)
    (z : place a.parameters s ≡ place_in a.parameters u k i) where
  tests_are : (t : Checked) → ((inner : List Structure) → tested a (leading_to a u k inner) ≡ t) → (located a e).tests s ≡ t
  tests_are t h = let l = leading a e u k i s z in l.1 ∙ sym (then_second _ _ (sym wide)) ∙ h l.0

  -- the super block: its pointer undefined, or its test refused
  module _ (d : is_direct a u ≡ false) where
    pub no_super : super_undefined a u ≡ true → LeadsNowhere (located a e) s
    unfolding leading_to block_reached tested
    no_super t = record { reach = gone a e u k i s z (rw (d, t) refl); tested = tests_are (Ok tt) (λ inner. rw (d, t) refl) }

    pub super_refused : (r : Refusal) → super_undefined a u ≡ false → test_of a (super_block u) ≡ Err r → (located a e).tests s ≡ Err r
    unfolding leading_to tested ◌then◌
    super_refused r t p = tests_are (Err r) (λ inner. rw (d, t, p) refl)

  module _ (r : Ready a u) where
    -- the data block: its pointer undefined, or its test refused
    pub no_block : block_undefined a u k ≡ true → LeadsNowhere (located a e) s
    no_block t = record { reach = gone a e u k i s z (ready_reached a u k r ∙ ap not t); tested = tests_are (Ok tt) (tested-undefined a u k r t) }

    pub block_refused : (x : Refusal) → block_undefined a u k ≡ false → test_of a (data_block u k) ≡ Err x → (located a e).tests s ≡ Err x
    unfolding tested ◌then◌
    block_refused x t p = tests_are (Err x) (λ inner. ready_tested a u k r inner ∙ rw (t, p) refl)

    module _ (t : block_undefined a u k ≡ false) (p : test_of a (data_block u k) ≡ Ok tt) where
      there : block_reached a u k ≡ true
      there = ready_reached a u k r ∙ ap not t

      -- in an unpaged block
      pub in_block_lem : in_pages a.parameters u ≡ false → LeadsTo (located a e) s (block_at a u k + block_element_at a.parameters a.offset_size i)
      unfolding place_test pointer_test structures reached place_in position_of tested ◌then◌
      in_block_lem q = record {
        reach = rw (z, q, there) refl;
        position = rw (z, q) refl;
        tested = rw (z, q, wide) (tested_defined a u k r t p _);
      }

      -- in a clear page, in a set one that has passed its test, and in one that is refused
      pub in_clear : in_pages a.parameters u ≡ true → page_set a u k (i / page_elements a.parameters) ≡ false → LeadsNowhere (located a e) s
      unfolding place_test pointer_test structures reached place_in page_set tested ◌then◌
      in_clear q b = record { reach = rw (z, q, there, b) refl; tested = rw (z, q, b, wide) (tested_defined a u k r t p _) }

      pub in_page : in_pages a.parameters u ≡ true → page_set a u k (i / page_elements a.parameters) ≡ true
          → test_of a (data_page u k (i / page_elements a.parameters)) ≡ Ok tt
          → LeadsTo (located a e) s (block_at a u k + paged_element_at a.parameters a.offset_size i)
      unfolding place_test pointer_test structures reached place_in page_set position_of tested ◌then◌
      in_page q b d = record {
        reach = rw (z, q, there, b) refl;
        position = rw (z, q) refl;
        tested = rw (z, q, b, wide) (tested_defined a u k r t p _ ∙ rw d refl);
      }

      pub page_refused : (x : Refusal) → in_pages a.parameters u ≡ true → page_set a u k (i / page_elements a.parameters) ≡ true
          → test_of a (data_page u k (i / page_elements a.parameters)) ≡ Err x → (located a e).tests s ≡ Err x
      unfolding place_test pointer_test structures place_in page_set tested ◌then◌
      page_refused x q b d = rw (z, q, b, wide) (tested_defined a u k r t p _ ∙ rw d refl)

-- an inline slot, and one that has no place
pub in_index : (a : Array) (e : Elements) (i : ℕ) → place a.parameters i ≡ Inline i → LeadsTo (located a e) i (position_of a (Inline i))
unfolding place_test pointer_test structures reached tested ◌then◌
in_index a e i z = record { reach = rw z refl; position = rw z refl; tested = rw z refl }

pub no_place : (a : Array) (e : Elements) (s : ℕ) → place a.parameters s ≡ Nowhere → LeadsNowhere (located a e) s
unfolding place_test pointer_test structures reached tested ◌then◌
no_place a e s z = record { reach = rw z refl; tested = rw z refl }
