-- The place of a slot, by arithmetic alone.
use Rattle.std.specs.Prelude.{ℕ, ◌+◌, ◌-◌, ◌/◌, ◌%◌, Bool, cond, ◌&&◌, ltb, leb}
use Rattle.ea_header.specs.Log.{log2}
use Rattle.ea_header.specs.declared.Parameters.{Parameters}
use Rattle.ea_geometry.specs.Sizes.{super_blocks, block_elements, direct_super_blocks, elements_before, page_elements}
use Rattle.ea_geometry.specs.Sizes.{over_page}
use Rattle.ea_geometry.specs.Sizes.{bit_number}
use Rattle.ea_geometry.specs.declared.Place.{Place}
use Rattle.ea_geometry.specs.declared.Place.TheVariants.{Inline, Block, Page, Nowhere}

-- the super block of element e behind the inline ones: u = floor(log2(e / m + 1)), with e / m rounded down
unfoldable pub super_of : Parameters → ℕ → ℕ
super_of h e = log2 (e / h.min_dblk_nelmts + 1)

-- Whether the data blocks of super block u are read by pages. Data blocks named by the index block are read unpaged.
unfoldable pub in_pages : Parameters → ℕ → Bool
in_pages h u = leb (direct_super_blocks h) u && over_page h u

-- The place of element i of data block k of super block u. In a paged block that a super block names element i lies
-- in page i / page elements, rounded down; a place in a block that the index block names is the unpaged one, without
-- page or bit.
unfoldable pub place_in : Parameters → ℕ → ℕ → ℕ → Place
place_in h u k i =
    cond (in_pages h u) (let p = i / page_elements h in Page u k i p (bit_number h u k p)) (Block u k i)

-- Element x of super block u is counted through its data blocks. No such u: no place.
unfoldable pub in_super_block : Parameters → ℕ → ℕ → Place
in_super_block h u x =
    cond (ltb u (super_blocks h)) (place_in h u (x / block_elements h u) (x % block_elements h u)) Nowhere

-- Below the inline count: inline. Otherwise e = s − inline count, u = floor(log2(e / m + 1)), and in u element
-- e − m × (2^u − 1).
unfoldable pub place : Parameters → ℕ → Place
place h s =
    cond (ltb s h.idx_blk_elmts) (Inline s)
    (let e = s - h.idx_blk_elmts in in_super_block h (super_of h e) (e - elements_before h (super_of h e)))
