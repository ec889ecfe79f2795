-- How many pages a fixed array has, how many bytes its structures take, and where its elements lie. All of it follows
-- from the header h and the offset size o.
use Rattle.std.specs.Prelude.{ℕ, ◌+◌, ◌-◌, ◌*◌, ◌/◌, ◌%◌, ◌^◌, min, Bool, cond, ltb}
use Rattle.structures.specs.PageBits.{bit_bytes}
use Rattle.element_form.specs.declared.Form.{Form}
use Rattle.element_form.specs.Form.{stride}
use Rattle.chunk_grid.specs.Grid.{ceil_div}
use Rattle.fa_header.specs.declared.FixedArrayHeader.{FixedArrayHeader}

-- the form of the array's elements
abbrev pub fixed_form : FixedArrayHeader → ℕ → Form
fixed_form h o = record { client_id = h.client_id; element_size = h.element_size; offset_size = o }

abbrev pub fixed_stride : FixedArrayHeader → ℕ → ℕ
fixed_stride h o = stride (fixed_form h o)

-- A page has 2^(page exponent) elements; a data block with more is paged.
unfoldable pub fixed_page_elements : FixedArrayHeader → ℕ
fixed_page_elements h = 2 ^ h.max_nelmts_bits

unfoldable pub is_paged : FixedArrayHeader → Bool
is_paged h = ltb (fixed_page_elements h) h.num_elements

unfoldable pub fixed_pages : FixedArrayHeader → ℕ
fixed_pages h = ceil_div h.num_elements (fixed_page_elements h)

-- The data block: signature, version, client, header address, ..
unfoldable pub fixed_prefix : ℕ → ℕ
fixed_prefix o = 6 + o

-- .. and, unpaged, elements and checksum; ..
unfoldable pub fixed_element_at : FixedArrayHeader → ℕ → ℕ → ℕ
fixed_element_at h o s = fixed_prefix o + s * fixed_stride h o

unfoldable pub fixed_block_extent : FixedArrayHeader → ℕ → ℕ
fixed_block_extent h o = fixed_element_at h o h.num_elements + 4

-- .. paged, a bit for each page and checksum, then pages, each of elements and checksum. All pages have the full
-- stride; ..
unfoldable pub fixed_head_extent : FixedArrayHeader → ℕ → ℕ
fixed_head_extent h o = fixed_prefix o + bit_bytes (fixed_pages h) + 4

unfoldable pub fixed_page_stride : FixedArrayHeader → ℕ → ℕ
fixed_page_stride h o = fixed_page_elements h * fixed_stride h o + 4

unfoldable pub fixed_page_at : FixedArrayHeader → ℕ → ℕ → ℕ
fixed_page_at h o p = fixed_head_extent h o + p * fixed_page_stride h o

-- .. the last page's extent has its own elements only.
unfoldable pub page_entries : FixedArrayHeader → ℕ → ℕ
page_entries h p = min (fixed_page_elements h) (h.num_elements - p * fixed_page_elements h)

unfoldable pub fixed_page_extent : FixedArrayHeader → ℕ → ℕ → ℕ
fixed_page_extent h o p = page_entries h p * fixed_stride h o + 4

-- The place of slot s, from the begin of the data block: in a paged block it is element s mod page elements of page
-- s / page elements, rounded down.
unfoldable pub page_of_slot : FixedArrayHeader → ℕ → ℕ
page_of_slot h s = s / fixed_page_elements h

unfoldable pub fixed_place : FixedArrayHeader → ℕ → ℕ → ℕ
fixed_place h o s =
    cond (is_paged h) (fixed_page_at h o (page_of_slot h s) + s % fixed_page_elements h * fixed_stride h o)
    (fixed_element_at h o s)

-- the bytes that the data block's own test covers: of a paged one its head, for each page has a test of its own
unfoldable pub fixed_tested_extent : FixedArrayHeader → ℕ → ℕ
fixed_tested_extent h o = cond (is_paged h) (fixed_head_extent h o) (fixed_block_extent h o)
