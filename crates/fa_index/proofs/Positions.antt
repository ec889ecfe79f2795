-- Where the elements of a fixed array lie whose data block has passed its test, and that they lie in the file: behind
-- the prefix of an unpaged block, or in the pages that have passed theirs. Assumes nothing.
use Prim.Native.Nat.{ℕ, ◌+◌, ◌*◌, ◌/◌, ◌%◌, ◌<◌, ◌≤◌}
use mathlib.Core.Path.{◌≡◌, refl}
use mathlib.Core.Bool.{true, false}
use native.Mathlib.Omega.{arith}
use native.Mathlib.Nat.{mod-lt, div-add-mod', mul-le-mul_right}
use lib.ListN.{length}
use Rattle.std.specs.Prelude.{Ok}
use Rattle.fa_header.specs.declared.FixedArrayHeader.{FixedArrayHeader}
use Rattle.fa_geometry.specs.Layout.{fixed_stride, fixed_page_elements, is_paged, fixed_element_at, page_entries, page_of_slot, fixed_place}
use Rattle.fa_geometry.proofs.Pages.{page_pos, unpaged_place}
use Rattle.fa_blocks.specs.FixedArray.{FixedArray, fixed_block_at}
use Rattle.fa_blocks.specs.Blocks.{fixed_block_test, fixed_page_test, fixed_page_position, fixed_position}
use Rattle.fa_walk.proofs.Room.{elements_inside, entries_inside}

-- one of n things of so many bytes each, and what lies before it
one_inside : (st i n at room : ℕ) → i < n → at + n * st ≤ room → at + i * st + st ≤ room
one_inside st i n at room lt le = let m = mul-le-mul_right {m = i + 1} {n = n} st (omega arith) in omega arith

-- the elements of a data block that is read unpaged
module _ (a : FixedArray) (q : is_paged a.header ≡ false) where
  pub first_is : fixed_position a 0 ≡ fixed_block_at a + fixed_element_at a.header a.offset_size 0
  unfolding fixed_position fixed_place
  first_is = rw q refl

  pub element_at_lem : (s : ℕ) → fixed_position a s ≡ fixed_block_at a + fixed_element_at a.header a.offset_size 0 + s * fixed_stride a.header a.offset_size
  unfolding fixed_position
  element_at_lem s = let x = unpaged_place a.header a.offset_size s q in omega arith

  pub element_inside : fixed_block_test a ≡ Ok tt → (s : ℕ) → s < a.header.num_elements
      → fixed_position a s + fixed_stride a.header a.offset_size ≤ length a.file
  element_inside t s lt =
      rw (element_at_lem s) (one_inside (fixed_stride a.header a.offset_size) s a.header.num_elements _ _ lt (elements_inside a t q))

-- a slot in its page
module _ (h : FixedArrayHeader) (s : ℕ) where
  abbrev pub page_of : ℕ
  page_of = s / fixed_page_elements h

  abbrev pub within : ℕ
  within = s % fixed_page_elements h

  pub slot_is : s ≡ page_of * fixed_page_elements h + within
  slot_is = let x = div-add-mod' s (fixed_page_elements h) in omega arith

  within_page : within < fixed_page_elements h
  within_page = mod-lt s (page_pos h)

  pub within_entries : s < h.num_elements → within < page_entries h page_of
  unfolding page_entries
  within_entries lt = let x = slot_is in let y = within_page in omega arith

-- an element of a page, ..
pub entry_at_lem : (a : FixedArray) (s : ℕ) → is_paged a.header ≡ true
    → fixed_position a s ≡ fixed_page_position a (page_of a.header s) + within a.header s * fixed_stride a.header a.offset_size
unfolding fixed_position fixed_place page_of_slot fixed_page_position
entry_at_lem a s q = rw q (omega arith)

-- .. which lies in the file where the page has passed its test
pub entry_inside : (a : FixedArray) (s : ℕ) → s < a.header.num_elements → fixed_page_test a (page_of a.header s) ≡ Ok tt
    → fixed_page_position a (page_of a.header s) + within a.header s * fixed_stride a.header a.offset_size + fixed_stride a.header a.offset_size ≤ length a.file
entry_inside a s lt t = one_inside _ (within a.header s) (page_entries a.header (page_of a.header s)) _ _ (within_entries a.header s lt) (entries_inside a _ t)
