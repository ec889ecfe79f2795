-- Where the parts of a structure lie: inside it, and, for served parameters and offset sizes up to 8, at numbers that
-- fit 64 bits. Assumes nothing.
use Prim.Native.Nat.{ℕ, ◌+◌, ◌-◌, ◌*◌, ◌/◌, ◌%◌, ◌^◌, ◌<◌, ◌≤◌}
use mathlib.Core.Path.{◌≡◌}
use mathlib.Core.Bool.{true}
use native.Mathlib.Omega.{arith}
use native.Mathlib.Nat.{mul_assoc, mul-le-mul_left, mul-le-mul_right, mod-lt}
use lib.Arith.{digits_lt}
use lib.Pow.{pow_pos}
use Rattle.ea_header.specs.Values.{Served}
use Rattle.ea_header.specs.declared.Parameters.{Parameters}
use Rattle.refusal.proofs.Tests.{by_cond}
use Rattle.ea_geometry.specs.Sizes.{super_blocks, blocks, block_elements, direct_super_blocks, blocks_before, direct_pointers, super_pointers, page_elements, over_page, pages, bitmap_bytes}
use Rattle.structures.specs.PageBits.{bit_bytes, bit_byte}
use Rattle.element_form.specs.Form.{filtered, stride}
use Rattle.ea_geometry.specs.Extents.{form_of, element_stride, element_at, pointer_at, index_prefix, inline_element_at, direct_pointers_at, super_pointers_at, index_extent, direct_pointer_at, super_pointer_at, block_prefix, block_pointer_at, super_extent, block_element_at, data_extent, paged_head_extent, page_extent, page_at, paged_extent, paged_element_at}
use Rattle.ea_geometry.specs.Sizes.{bit_number}
use Rattle.ea_geometry.proofs.Counts.{blocks_before_lt, supers_few, direct_pointers_few}

-- the i-th of n parts of the same length
part_inside : (first s i n : ℕ) → i < n → first + i * s + s ≤ first + n * s
part_inside first s i n lt = let a = mul-le-mul_right s lt in omega arith

module _ (h : Parameters) (o : ℕ) where
  pub element_inside : (first i n : ℕ) → i < n → element_at h o first i + element_stride h o ≤ element_at h o first n
  unfolding element_at
  element_inside first i n lt = part_inside first (element_stride h o) i n lt

  pub pointer_inside : (first j n : ℕ) → j < n → pointer_at o first j + o ≤ pointer_at o first n
  unfolding pointer_at
  pointer_inside first j n lt = part_inside first o j n lt

  -- the index block: its fixed bytes, its addresses, its elements
  pub index_extent_is : index_extent h o ≡ 10 + (1 + direct_pointers h + super_pointers h) * o + h.idx_blk_elmts * element_stride h o
  unfolding index_extent super_pointers_at direct_pointers_at inline_element_at element_at pointer_at index_prefix
  index_extent_is = omega arith

  -- in the index block
  pub inline_element_inside : (i : ℕ) → i < h.idx_blk_elmts → inline_element_at h o i + element_stride h o ≤ direct_pointers_at h o
  unfolding direct_pointers_at inline_element_at
  inline_element_inside i lt = element_inside (index_prefix o) i h.idx_blk_elmts lt

  pub direct_pointer_inside : (u k : ℕ) → u < direct_super_blocks h → k < blocks u → direct_pointer_at h o u k + o ≤ super_pointers_at h o
  unfolding direct_pointer_at super_pointers_at direct_pointers
  direct_pointer_inside u k lu lk = pointer_inside (direct_pointers_at h o) (blocks_before u + k) (blocks_before (direct_super_blocks h)) (blocks_before_lt u (direct_super_blocks h) k lu lk)

  pub super_pointer_inside : (u : ℕ) → direct_super_blocks h ≤ u → u < super_blocks h → super_pointer_at h o u + o + 4 ≤ index_extent h o
  unfolding super_pointer_at index_extent super_pointers
  super_pointer_inside u le lt = let a = pointer_inside (super_pointers_at h o) (u - direct_super_blocks h) (super_blocks h - direct_super_blocks h) (omega arith) in omega arith

  pub super_pointers_inside : super_pointers_at h o + 4 ≤ index_extent h o
  unfolding index_extent pointer_at
  super_pointers_inside = omega arith

  pub direct_pointers_inside : direct_pointers_at h o ≤ super_pointers_at h o
  unfolding super_pointers_at pointer_at
  direct_pointers_inside = omega arith

  -- in a super block
  pub bit_inside : (u k p : ℕ) → over_page h u ≡ true → k < blocks u → p < pages h u → block_prefix h o + bit_byte (bit_number h u k p) < block_pointer_at h o u 0
  unfolding bit_byte bit_number block_pointer_at pointer_at bitmap_bytes bit_bytes
  bit_inside u k p t lk lp =
      let lt = digits_lt lk lp in
      let le : pages h u ≤ 8 * ((pages h u + 7) / 8) = omega arith in
      let a = mul-le-mul_left (blocks u) le in
      rw t (omega arith)

  pub block_pointer_inside : (u k : ℕ) → k < blocks u → block_pointer_at h o u k + o + 4 ≤ super_extent h o u
  unfolding super_extent block_pointer_at
  block_pointer_inside u k lt = let a = pointer_inside (block_prefix h o + bitmap_bytes h u) k (blocks u) lt in omega arith

  -- in a data block
  pub block_element_inside : (u i : ℕ) → i < block_elements h u → block_element_at h o i + element_stride h o + 4 ≤ data_extent h o u
  unfolding data_extent block_element_at
  block_element_inside u i lt = let a = element_inside (block_prefix h o) i (block_elements h u) lt in omega arith

  pub page_inside : (u p : ℕ) → p < pages h u → page_at h o p + page_extent h o ≤ paged_extent h o u
  unfolding paged_extent page_at
  page_inside u p lt = part_inside (paged_head_extent h o) (page_extent h o) p (pages h u) lt

  pub paged_element_inside : (i : ℕ) → paged_element_at h o i + element_stride h o + 4 ≤ page_at h o (i / page_elements h) + page_extent h o
  unfolding paged_element_at element_at page_extent page_elements
  paged_element_inside i =
      let lt = mod-lt i (pow_pos h.max_dblk_nelmts_bits) in
      let a = part_inside 0 (element_stride h o) (i % 2 ^ h.max_dblk_nelmts_bits) (2 ^ h.max_dblk_nelmts_bits) lt in
      omega arith

  module _ (w : o ≤ 8) where
    pub pointer_at_le : (first j : ℕ) → pointer_at o first j ≤ first + 8 * j
    unfolding pointer_at
    pointer_at_le first j = let a = mul-le-mul_left j w in omega arith

    pub block_prefix_few : Served h → block_prefix h o ≤ 22
    unfolding block_prefix bit_bytes
    block_prefix_few v = let b = v.bits in omega arith

    module _ (e : h.element_size < 256) where
      pub stride_few : element_stride h o ≤ 255
      unfolding stride
      stride_few = by_cond (λ (s : ℕ). s ≤ 255) (filtered (form_of h o)) {x = h.element_size} {y = o} (λ t. omega arith) (λ t. omega arith)

      pub element_at_le : (first i : ℕ) → element_at h o first i ≤ first + 255 * i
      unfolding element_at
      element_at_le first i = let a = mul-le-mul_left i stride_few in omega arith

      pub direct_pointers_at_few : h.idx_blk_elmts < 256 → direct_pointers_at h o ≤ 2 ^ 17
      unfolding direct_pointers_at inline_element_at index_prefix
      direct_pointers_at_few n = let a = element_at_le (6 + o) h.idx_blk_elmts in omega arith

      pub super_pointers_at_few : h.idx_blk_elmts < 256 → Served h → super_pointers_at h o ≤ 2 ^ 37
      unfolding super_pointers_at
      super_pointers_at_few n v =
          omega (arith, pointer_at_le (direct_pointers_at h o) (direct_pointers h), direct_pointers_at_few n, direct_pointers_few h v)

      pub index_extent_few : h.idx_blk_elmts < 256 → Served h → index_extent h o ≤ 2 ^ 38
      unfolding index_extent super_pointers
      index_extent_few n v =
          omega (arith, pointer_at_le (super_pointers_at h o) (super_blocks h - direct_super_blocks h), super_pointers_at_few n v, supers_few h v)

      pub page_at_le : Served h → (p : ℕ) → page_at h o p ≤ 26 + 259 * (p * page_elements h)
      unfolding page_at paged_head_extent page_extent element_at page_elements
      page_at_le v p =
          let q = 2 ^ h.max_dblk_nelmts_bits in
          let s = element_stride h o in
          let a : p * (q * s) ≤ 255 * (p * q) = rw (← mul_assoc p q s) (omega (arith, mul-le-mul_left (p * q) stride_few)) in
          let b : p ≤ p * q = omega (arith, mul-le-mul_left p (pow_pos h.max_dblk_nelmts_bits)) in
          omega (arith, block_prefix_few v)
