-- Laws of an array's structures and their tests: a structure that has passed lies in the file, with all its parts.
-- Assumes nothing.
use Prim.Native.Nat.{ℕ, ◌+◌, ◌*◌, ◌<◌, ◌≤◌}
use mathlib.Core.Path.{◌≡◌, refl}
use mathlib.Core.Bool.{true, false}
use mathlib.Core.List.{List}
use native.Mathlib.Omega.{arith}
use lib.ListN.{length}
use borrow.Author.Tests.{lt-ltb, le-ltb, ltb-true, ltb-false}
use Rattle.std.specs.Prelude.{Ok}
use Rattle.refusal.proofs.Tests.{then_inv}
use Rattle.fields.specs.Fields.{is_width}
use Rattle.structures.proofs.StructureTests.{structure_inside}
use Rattle.ea_header.specs.Values.{Served}
use Rattle.ea_header.proofs.Served.{tested_serves}
use Rattle.ea_geometry.specs.Sizes.{block_elements, direct_super_blocks, page_elements}
use Rattle.ea_geometry.specs.Extents.{element_stride, element_at, inline_element_at, direct_pointers_at, index_extent, direct_pointer_at, block_pointer_at, super_extent, block_element_at, data_extent, paged_head_extent, page_extent}
use Rattle.ea_geometry.specs.Place.{in_pages}
use Rattle.ea_geometry.proofs.Positions.{direct_pointers_inside, super_pointers_inside}
use Rattle.ea_blocks.specs.declared.ExtensibleArray.{ExtensibleArray}
use Rattle.ea_blocks.specs.Array.{Array}
use Rattle.ea_blocks.specs.Structures.{Structure, index_block, super_block, data_block, data_page, start_of, extent_of, test_of, array_test, is_direct, super_block_at, block_named_at, block_at, data_page_at}
use Rattle.ea_blocks.specs.Values.{IndexInFile, array_of}

module _ (a : Array) where
  -- what the way into an array leaves
  pub array_passed : array_test a ≡ Ok tt → Served a.parameters × (test_of a index_block ≡ Ok tt)
  unfolding array_test
  array_passed t = let i = then_inv _ _ t in (tested_serves _ i.0, i.1)

  -- what lies in the file behind each passed test
  pub test_inside : (x : Structure) → test_of a x ≡ Ok tt → start_of a x + extent_of a x ≤ length a.file
  unfolding test_of
  test_inside x t = structure_inside _ _ _ _ _ t

  pub index_inside : test_of a index_block ≡ Ok tt → a.index_at + index_extent a.parameters a.offset_size ≤ length a.file
  unfolding start_of extent_of
  index_inside t = test_inside index_block t

  pub inline_inside : test_of a index_block ≡ Ok tt
      → a.index_at + inline_element_at a.parameters a.offset_size a.parameters.idx_blk_elmts ≤ length a.file
  unfolding direct_pointers_at
  inline_inside t =
      omega (arith, index_inside t, direct_pointers_inside a.parameters a.offset_size, super_pointers_inside a.parameters a.offset_size)

  pub super_inside : (u : ℕ) → test_of a (super_block u) ≡ Ok tt → super_block_at a u + super_extent a.parameters a.offset_size u ≤ length a.file
  unfolding start_of extent_of
  super_inside u t = test_inside (super_block u) t

  module _ (u k : ℕ) where
    pub block_inside : test_of a (data_block u k) ≡ Ok tt → in_pages a.parameters u ≡ false
        → block_at a u k + block_element_at a.parameters a.offset_size (block_elements a.parameters u) + 4 ≤ length a.file
    unfolding start_of extent_of data_extent
    block_inside t q = let i = rw q at (test_inside (data_block u k) t) in omega arith

    pub head_inside : test_of a (data_block u k) ≡ Ok tt → in_pages a.parameters u ≡ true
        → block_at a u k + paged_head_extent a.parameters a.offset_size ≤ length a.file
    unfolding start_of extent_of
    head_inside t q = rw q at (test_inside (data_block u k) t)

    pub page_inside : (p : ℕ) → test_of a (data_page u k p) ≡ Ok tt
        → data_page_at a u k p + page_elements a.parameters * element_stride a.parameters a.offset_size + 4 ≤ length a.file
    unfolding start_of extent_of page_extent element_at
    page_inside p t = let i = test_inside (data_page u k p) t in omega arith

  -- where data block k of super block u is named
  module _ (u : ℕ) where
    pub is_direct_lem : u < direct_super_blocks a.parameters → is_direct a u ≡ true
    unfolding is_direct
    is_direct_lem lt = lt-ltb u (direct_super_blocks a.parameters) lt

    pub not_direct : direct_super_blocks a.parameters ≤ u → is_direct a u ≡ false
    unfolding is_direct
    not_direct le = le-ltb u (direct_super_blocks a.parameters) le

    pub direct_lem : is_direct a u ≡ true → u < direct_super_blocks a.parameters
    unfolding is_direct
    direct_lem e = ltb-true u (direct_super_blocks a.parameters) e

    pub beyond_lem : is_direct a u ≡ false → direct_super_blocks a.parameters ≤ u
    unfolding is_direct
    beyond_lem e = ltb-false u (direct_super_blocks a.parameters) e

    pub named_in_index : (k : ℕ) → u < direct_super_blocks a.parameters → block_named_at a u k ≡ a.index_at + direct_pointer_at a.parameters a.offset_size u k
    unfolding block_named_at
    named_in_index k lt = rw (is_direct_lem lt) refl

    pub named_in_super : (k : ℕ) → direct_super_blocks a.parameters ≤ u → block_named_at a u k ≡ super_block_at a u + block_pointer_at a.parameters a.offset_size u k
    unfolding block_named_at
    named_in_super k le = rw (not_direct le) refl

-- an index block that has passed its test
pub index_in_file : (f : List ℕ) (a : ExtensibleArray) → Served a.geometry.parameters → is_width a.geometry.offset_size ≡ true
    → test_of (array_of f a) index_block ≡ Ok tt → IndexInFile f a
index_in_file f a v w t = record { served = v; wide = w; inside = index_inside (array_of f a) t }
