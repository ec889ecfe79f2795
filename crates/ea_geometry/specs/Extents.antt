-- How many bytes each structure takes, and where in it its parts lie. All of it follows from the parameters h and the
-- offset size o.
use Rattle.std.specs.Prelude.{ℕ, ◌+◌, ◌-◌, ◌*◌, ◌/◌, ◌%◌}
use Rattle.element_form.specs.declared.Form.{Form}
use Rattle.element_form.specs.Form.{stride}
use Rattle.structures.specs.PageBits.{bit_bytes}
use Rattle.ea_header.specs.declared.Parameters.{Parameters}
use Rattle.ea_geometry.specs.Sizes.{blocks, block_elements, direct_super_blocks, blocks_before, direct_pointers}
use Rattle.ea_geometry.specs.Sizes.{super_pointers, page_elements, pages, bitmap_bytes}

-- the form of the array's elements
abbrev pub form_of : Parameters → ℕ → Form
form_of h o = record { client_id = h.client_id; element_size = h.element_size; offset_size = o }

abbrev pub element_stride : Parameters → ℕ → ℕ
element_stride h o = stride (form_of h o)

-- element i of elements that begin at `first`
unfoldable pub element_at : Parameters → ℕ → ℕ → ℕ → ℕ
element_at h o first i = first + i * element_stride h o

-- pointer j of pointers that begin at `first`
unfoldable pub pointer_at : ℕ → ℕ → ℕ → ℕ
pointer_at o first j = first + j * o

-- The index block: signature, version, client, header address; inline elements, direct data block pointers, super
-- block pointers, checksum.
unfoldable pub index_prefix : ℕ → ℕ
index_prefix o = 6 + o

unfoldable pub inline_element_at : Parameters → ℕ → ℕ → ℕ
inline_element_at h o i = element_at h o (index_prefix o) i

unfoldable pub direct_pointers_at : Parameters → ℕ → ℕ
direct_pointers_at h o = inline_element_at h o h.idx_blk_elmts

unfoldable pub super_pointers_at : Parameters → ℕ → ℕ
super_pointers_at h o = pointer_at o (direct_pointers_at h o) (direct_pointers h)

unfoldable pub index_extent : Parameters → ℕ → ℕ
index_extent h o = pointer_at o (super_pointers_at h o) (super_pointers h) + 4

-- The index block names data blocks in the order of their super blocks: here data block k of super block u ..
unfoldable pub direct_pointer_at : Parameters → ℕ → ℕ → ℕ → ℕ
direct_pointer_at h o u k = pointer_at o (direct_pointers_at h o) (blocks_before u + k)

-- .. then the other super blocks: here super block u.
unfoldable pub super_pointer_at : Parameters → ℕ → ℕ → ℕ
super_pointer_at h o u = pointer_at o (super_pointers_at h o) (u - direct_super_blocks h)

-- A super block and a data block begin with signature, version, client, header address and block offset, which takes
-- ceil(max bits / 8) bytes.
unfoldable pub block_prefix : Parameters → ℕ → ℕ
block_prefix h o = 6 + o + bit_bytes h.max_nelmts_bits

-- Super block u: its prefix, page bits if paged, pointers, checksum.
unfoldable pub block_pointer_at : Parameters → ℕ → ℕ → ℕ → ℕ
block_pointer_at h o u k = pointer_at o (block_prefix h o + bitmap_bytes h u) k

unfoldable pub super_extent : Parameters → ℕ → ℕ → ℕ
super_extent h o u = block_pointer_at h o u (blocks u) + 4

-- A data block of super block u: its prefix, elements, checksum ..
unfoldable pub block_element_at : Parameters → ℕ → ℕ → ℕ
block_element_at h o i = element_at h o (block_prefix h o) i

unfoldable pub data_extent : Parameters → ℕ → ℕ → ℕ
data_extent h o u = block_element_at h o (block_elements h u) + 4

-- .. if paged, its prefix, checksum and then pages, each of elements and checksum.
unfoldable pub paged_head_extent : Parameters → ℕ → ℕ
paged_head_extent h o = block_prefix h o + 4

unfoldable pub page_extent : Parameters → ℕ → ℕ
page_extent h o = element_at h o 0 (page_elements h) + 4

unfoldable pub page_at : Parameters → ℕ → ℕ → ℕ
page_at h o p = paged_head_extent h o + p * page_extent h o

unfoldable pub paged_extent : Parameters → ℕ → ℕ → ℕ
paged_extent h o u = page_at h o (pages h u)

-- In a paged block element i lies in page i / page elements, rounded down.
unfoldable pub paged_element_at : Parameters → ℕ → ℕ → ℕ
paged_element_at h o i = element_at h o (page_at h o (i / page_elements h)) (i % page_elements h)
