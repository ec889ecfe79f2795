-- Which elements of a fixed array lie in the file where the tests of its structures have passed. Assumes nothing.
use Prim.Native.Nat.{ℕ, ◌+◌, ◌*◌, ◌≤◌}
use mathlib.Core.Path.{◌≡◌}
use mathlib.Core.Bool.{false}
use native.Mathlib.Omega.{arith}
use lib.ListN.{length}
use Rattle.std.specs.Prelude.{Ok}
use Rattle.fa_geometry.specs.Layout.{fixed_stride, is_paged, fixed_element_at, page_entries, fixed_page_extent}
use Rattle.fa_blocks.specs.FixedArray.{FixedArray, fixed_block_at}
use Rattle.fa_blocks.specs.Blocks.{fixed_block_test, fixed_page_test, fixed_page_position}
use Rattle.fa_blocks.proofs.FixedBlocks.{block_inside, unpaged_inside, page_inside}

module _ (a : FixedArray) where
  -- those of an unpaged data block
  pub elements_inside : fixed_block_test a ≡ Ok tt → is_paged a.header ≡ false
      → fixed_block_at a + fixed_element_at a.header a.offset_size 0 + a.header.num_elements * fixed_stride a.header a.offset_size ≤ length a.file
  unfolding fixed_element_at
  elements_inside t q = let x = unpaged_inside a (block_inside a t) q a.header.num_elements (omega arith) in omega arith

  -- and of a page
  pub entries_inside : (p : ℕ) → fixed_page_test a p ≡ Ok tt
      → fixed_page_position a p + page_entries a.header p * fixed_stride a.header a.offset_size ≤ length a.file
  unfolding fixed_page_extent
  entries_inside p t = let x = page_inside a p t in omega arith
