-- Laws of structures that were stepped into: they lie in the file, with all their parts. Assumes nothing.
use Prim.Native.Nat.{ℕ, ◌+◌, ◌*◌, ◌^◌, ◌<◌, ◌≤◌}
use mathlib.Core.Path.{◌≡◌, refl, sym, subst, ◌∙◌}
use mathlib.Core.Bool.{Bool, true, false, cond}
use native.Mathlib.Omega.{arith}
use native.Mathlib.Nat.{mul-le-mul_right}
use lib.ListN.{length}
use Rattle.std.specs.Prelude.{Err, None, Ok, Option, Some}
use Rattle.std.specs.Option.{is_some, ForNone, ForSome}
use Rattle.refusal.specs.Refusals.{Checked, Outcome}
use Rattle.structures.specs.Entered.{entered}
use Rattle.structures.proofs.Entering.{entered_where}
use Rattle.ea_header.specs.declared.Parameters.{Parameters}
use Rattle.ea_header.specs.Values.{Served}
use Rattle.ea_geometry.specs.Sizes.{super_blocks, block_elements, direct_super_blocks, page_elements, pages}
use Rattle.ea_geometry.specs.Extents.{page_at, element_stride, super_extent, block_element_at, paged_head_extent}
use Rattle.ea_geometry.specs.Place.{in_pages}
use Rattle.ea_geometry.proofs.Counts.{pages_fit}
use Rattle.ea_geometry.proofs.Places.{paged_behind}
use Rattle.ea_geometry.proofs.Positions.{page_at_le}
use Rattle.ea_blocks.specs.Array.{Array}
use Rattle.ea_blocks.specs.Values.{NamedAt, pointer_of}
use Rattle.ea_blocks.specs.Structures.{data_block, data_page, test_of, block_at, data_page_at, block_undefined, page_set}
use Rattle.ea_blocks.specs.Entered.{EnteredSuper, EnteredBlock, EnteredPage}
use Rattle.ea_blocks.proofs.StructureTests.{super_inside, direct_lem, beyond_lem, block_inside, head_inside, page_inside}

-- the elements before a page of a data block
pub page_few : (h : Parameters) → Served h → (u p : ℕ) → u < super_blocks h → p < pages h u → p * page_elements h ≤ 2 ^ 35
page_few h s u p m lt =
    let le : p ≤ pages h u = omega arith in
    omega (arith, mul-le-mul_right (page_elements h) le, pages_fit h s u m)

-- where a page lies fits 64 bits
pub page_fits : (h : Parameters) (o : ℕ) → Served h → o ≤ 8 → h.element_size < 256 → (u p at : ℕ) → u < super_blocks h → p < pages h u → at < 2 ^ 63
    → at + page_at h o p < 2 ^ 64
page_fits h o s w e u p at m lt less = omega (arith, page_few h s u p m lt, page_at_le h o w e s p)

-- what a data block comes to where it is stepped into
pub block_entered : (a : Array) (u k : ℕ) (x : Outcome (Option ℕ)) → x ≡ entered (pointer_of (block_undefined a u k) (block_at a u k)) (test_of a (data_block u k))
    → EnteredBlock a u k x
unfolding pointer_of entered
block_entered a u k x = go (block_undefined a u k) (test_of a (data_block u k)) refl refl
  where
    go : (b : Bool) (t : Checked) → block_undefined a u k ≡ b → test_of a (data_block u k) ≡ t → x ≡ entered (pointer_of b (block_at a u k)) t → EnteredBlock a u k x
    go true t d e w = subst (EnteredBlock a u k) (sym w) d
    go false (Ok o) d e w = subst (EnteredBlock a u k) (sym w) (d, e, refl)
    go false (Err r) d e w = subst (EnteredBlock a u k) (sym w) (d, e)

-- .. and a page
pub page_entered : (a : Array) (u k p : ℕ) (x : Outcome (Option ℕ))
    → x ≡ entered (cond (page_set a u k p) (Some (data_page_at a u k p)) None) (test_of a (data_page u k p)) → EnteredPage a u k p x
page_entered a u k p x e =
    entered_where (EnteredPage a u k p) _ _ _ x e (λ s. s) (λ s t. (s, t, refl)) (λ r s t. (s, t))

module _ (a : Array) (u : ℕ) where
  -- a super block that was stepped into lies where its pointer says
  pub entered_at : (o : Option ℕ) → EnteredSuper a u (Ok (Some o)) → NamedAt a u o
  entered_at (Some at) e x w = let i : at ≡ x = cc in sym i ∙ e.3
  entered_at None e x w = let z : ◌≡◌ {A = ℕ} 0 1 = cc in absurd (omega arith)

  -- .. in the file; the index block names the data blocks of the first super blocks
  pub entered_direct : (o : Option ℕ) → EnteredSuper a u (Ok (Some o)) → ForNone o (u < direct_super_blocks a.parameters)
  entered_direct None e w = direct_lem a u e
  entered_direct (Some at) e w = let z : ◌≡◌ {A = ℕ} 0 1 = cc in absurd (omega arith)

  -- the super block names the data blocks that are read by pages
  pub paged_named : (o : Option ℕ) → EnteredSuper a u (Ok (Some o)) → in_pages a.parameters u ≡ true → is_some o ≡ true
  paged_named (Some at) e q = refl
  paged_named None e q = let lt = entered_direct None e refl in absurd (omega (arith, paged_behind a.parameters u q))

  pub entered_super_room : (o : Option ℕ) → EnteredSuper a u (Ok (Some o))
      → ForSome o (λ (at : ℕ). (direct_super_blocks a.parameters ≤ u) × (at + super_extent a.parameters a.offset_size u ≤ length a.file))
  entered_super_room (Some at) e x w =
      let i : at ≡ x = cc in
      (beyond_lem a u e.0, rw (← i, e.3) (super_inside a u e.2))
  entered_super_room None e x w = let z : ◌≡◌ {A = ℕ} 0 1 = cc in absurd (omega arith)

  module _ (at k : ℕ) where
    pub entered_block_room : EnteredBlock a u k (Ok (Some at)) → in_pages a.parameters u ≡ false
        → at + block_element_at a.parameters a.offset_size (block_elements a.parameters u) ≤ length a.file
    entered_block_room e q = let i = block_inside a u k e.1 q in rw e.2 (omega arith)

    pub entered_head_room : EnteredBlock a u k (Ok (Some at)) → in_pages a.parameters u ≡ true
        → at + paged_head_extent a.parameters a.offset_size ≤ length a.file
    entered_head_room e q = rw e.2 (head_inside a u k e.1 q)

    pub entered_page_room : (p : ℕ) → EnteredPage a u k p (Ok (Some at))
        → at + page_elements a.parameters * element_stride a.parameters a.offset_size ≤ length a.file
    entered_page_room p e = let i = page_inside a u k p e.1 in rw e.2 (omega arith)
