-- The pages of a fixed array: which slots each has, and where their elements lie. Assumes nothing.
use Prim.Native.Nat.{ℕ, ◌+◌, ◌-◌, ◌*◌, ◌/◌, ◌%◌, ◌<◌, ◌≤◌}
use mathlib.Core.Path.{◌≡◌}
use mathlib.Core.Bool.{true, false}
use native.Mathlib.Omega.{arith}
use native.Mathlib.Nat.{mul-le-mul_left, div-lt_iff_lt-mul, le-div_iff_mul-le, div-mul-le_self}
use lib.Arith.{digits_div, digits_mod}
use lib.Pow.{pow_pos}
use Rattle.chunk_grid.specs.Grid.{ceil_div}
use Rattle.fa_header.specs.declared.FixedArrayHeader.{FixedArrayHeader}
use Rattle.fa_geometry.specs.Layout.{fixed_stride, fixed_page_elements, is_paged, fixed_pages, fixed_element_at, fixed_page_at, page_entries, page_of_slot, fixed_place}

-- n things in parts of q, of which the last may have fewer
module _ (n q : ℕ) (pos : 0 < q) where
  parts_hold : n ≤ ceil_div n q * q
  unfolding ceil_div
  parts_hold =
      let more : (n + (q - 1)) / q < ceil_div n q + 1 = omega arith in
      omega (arith, (div-lt_iff_lt-mul pos).0 more)

  part_before : (p : ℕ) → p < ceil_div n q → p * q < n
  unfolding ceil_div
  part_before p lt = omega (arith, (le-div_iff_mul-le pos).0 lt)

  part_below : (s : ℕ) → s < n → s / q < ceil_div n q
  unfolding ceil_div
  part_below s lt = (le-div_iff_mul-le pos).1 (omega (arith, div-mul-le_self s q))

module _ (h : FixedArrayHeader) where
  -- the elements of a page
  pub page_pos : 0 < fixed_page_elements h
  unfolding fixed_page_elements
  page_pos = pow_pos h.max_nelmts_bits

  -- the pages hold all entries, ..
  pub pages_hold : h.num_elements ≤ fixed_pages h * fixed_page_elements h
  unfolding fixed_pages
  pages_hold = parts_hold h.num_elements (fixed_page_elements h) page_pos

  -- .. none is empty, ..
  pub page_before : (p : ℕ) → p < fixed_pages h → p * fixed_page_elements h < h.num_elements
  unfolding fixed_pages
  page_before p lt = part_before h.num_elements (fixed_page_elements h) page_pos p lt

  -- .. so that there are no more pages than entries, ..
  pub page_counted : (p : ℕ) → p < fixed_pages h → p < h.num_elements
  page_counted p lt = omega (arith, page_before p lt, mul-le-mul_left p page_pos)

  -- .. and all before the last are full
  pub page_full : (p : ℕ) → p + 1 < fixed_pages h → page_entries h p ≡ fixed_page_elements h
  unfolding page_entries
  page_full p lt = omega (arith, page_before (p + 1) lt)

  -- a slot by its page and its place there
  pub slot_page : (s : ℕ) → s < h.num_elements → s / fixed_page_elements h < fixed_pages h
  unfolding fixed_pages
  slot_page s lt = part_below h.num_elements (fixed_page_elements h) page_pos s lt

  module _ (p i : ℕ) (lt : i < fixed_page_elements h) where
    pub page_of_lem : (p * fixed_page_elements h + i) / fixed_page_elements h ≡ p
    page_of_lem = digits_div p lt

    pub place_in_page : (p * fixed_page_elements h + i) % fixed_page_elements h ≡ i
    place_in_page = digits_mod p lt

    pub paged_place : (o : ℕ) → is_paged h ≡ true
        → fixed_place h o (p * fixed_page_elements h + i) ≡ fixed_page_at h o p + i * fixed_stride h o
    unfolding fixed_place page_of_slot
    paged_place o t = rw (t, page_of_lem, place_in_page)

  pub unpaged_place : (o i : ℕ) → is_paged h ≡ false → fixed_place h o i ≡ fixed_element_at h o 0 + i * fixed_stride h o
  unfolding fixed_place fixed_element_at
  unpaged_place o i t = rw t (omega arith)
