-- Super blocks, data blocks, elements and pages: how many there are. All of it follows from the parameters alone.
use Rattle.std.specs.Prelude.{ℕ, zero, suc, ◌+◌, ◌-◌, ◌*◌, ◌/◌, ◌^◌, min, Bool, cond, ltb}
use Rattle.structures.specs.PageBits.{bit_bytes}
use Rattle.ea_header.specs.Log.{log2}
use Rattle.ea_header.specs.declared.Parameters.{Parameters}

-- With m the least block elements, there are (max bits − log2 m, not below 0) + 1 super blocks.
unfoldable pub super_blocks : Parameters → ℕ
super_blocks h = (h.max_nelmts_bits - log2 h.min_dblk_nelmts) + 1

-- Super block u has 2^floor(u/2) data blocks ..
unfoldable pub blocks : ℕ → ℕ
blocks u = 2 ^ (u / 2)

-- .. of m × 2^floor((u+1)/2) elements.
unfoldable pub block_elements : Parameters → ℕ → ℕ
block_elements h u = h.min_dblk_nelmts * 2 ^ ((u + 1) / 2)

-- The super block minimum says how many super blocks have their data blocks named in the index block: all of them, if
-- it is larger.
unfoldable pub direct_super_blocks : Parameters → ℕ
direct_super_blocks h = min h.super_blk_min_nelmts (super_blocks h)

-- the data blocks of the super blocks before u
unfoldable pub blocks_before : ℕ → ℕ
blocks_before zero = 0
blocks_before (suc u) = blocks_before u + blocks u

-- The index block names so many data blocks ..
unfoldable pub direct_pointers : Parameters → ℕ
direct_pointers h = blocks_before (direct_super_blocks h)

-- .. and so many super blocks.
unfoldable pub super_pointers : Parameters → ℕ
super_pointers h = super_blocks h - direct_super_blocks h

-- the elements of the super blocks before u: m × (2^u − 1)
unfoldable pub elements_before : Parameters → ℕ → ℕ
elements_before h u = h.min_dblk_nelmts * (2 ^ u - 1)

-- A page has 2^(page exponent) elements; a block with more is paged.
unfoldable pub page_elements : Parameters → ℕ
page_elements h = 2 ^ h.max_dblk_nelmts_bits

unfoldable pub over_page : Parameters → ℕ → Bool
over_page h u = ltb (page_elements h) (block_elements h u)

unfoldable pub pages : Parameters → ℕ → ℕ
pages h u = block_elements h u / page_elements h

-- The page bits take blocks × ceil(pages / 8) bytes; there are none where a block is not over a page.
unfoldable pub bitmap_bytes : Parameters → ℕ → ℕ
bitmap_bytes h u = cond (over_page h u) (blocks u * bit_bytes (pages h u)) 0

-- Page p of data block k of super block u has bit number b = k × pages + p.
unfoldable pub bit_number : Parameters → ℕ → ℕ → ℕ → ℕ
bit_number h u k p = k * pages h u + p

-- No data block of served parameters has more elements than this.
abbrev pub most_elements : ℕ
most_elements = 2 ^ 35
