-- The walk of the list: which test comes when, and which records it gives. Each definition says what is left to do
-- from here; `rest` is what comes behind it, and s the slot that the walk has come to.
use Rattle.std.specs.Prelude.{ℕ, zero, suc, ◌+◌, ◌*◌, cond, ◌&&◌, List, [], leb, Ok}
use Rattle.refusal.specs.Outcome.{◌yields◌}
use Rattle.fields.specs.Fields.{offset_size_test}
use Rattle.chunk_grid.specs.Grid.{Grid, grid_test}
use Rattle.index.specs.Index.{Listing}
use Rattle.elements.specs.Elements.{Elements}
use Rattle.elements.specs.Runs.{elements_from, pages_from}
use Rattle.located.specs.Located.{Located}
use Rattle.ea_header.specs.declared.ExtensibleArrayHeader.{ExtensibleArrayHeader}
use Rattle.ea_geometry.specs.Sizes.{super_blocks, blocks, block_elements, pages}
use Rattle.ea_geometry.specs.Extents.{form_of, inline_element_at, block_element_at}
use Rattle.ea_geometry.specs.Place.{in_pages, place}
use Rattle.ea_blocks.specs.Array.{Array}
use Rattle.ea_blocks.specs.Structures.{super_block, data_block, test_of, array_test, pages_of, is_direct, block_at}
use Rattle.ea_blocks.specs.Structures.{super_undefined, block_undefined}
use Rattle.ea_blocks.specs.Places.{reached, position_of, place_test}

-- The elements of a header with this offset size, of a dataset with this grid and element size.
abbrev pub elements_in : List ℕ → ExtensibleArrayHeader → ℕ → Grid → ℕ → Elements
elements_in file h o grid n =
    record { file = file; form = form_of h.parameters o; grid = grid; element_bytes = n; count = h.num_elements }

-- Where the elements of an array lie: each slot's element at its place.
abbrev pub located : Array → Elements → Located
located a e = record {
  elements = e;
  tests = λ (s : ℕ). place_test a (place a.parameters s);
  reached = λ (s : ℕ). reached a (place a.parameters s);
  position = λ (s : ℕ). position_of a (place a.parameters s);
}

-- Data block k of super block u. Its extent and checksum cover all its slots, also those past the published count.
unfoldable pub block : Array → Elements → ℕ → ℕ → ℕ → Listing → Listing
block a e u k s rest =
    test_of a (data_block u k)
    yields cond (in_pages a.parameters u) (pages_from e (pages_of a u k) (pages a.parameters u) 0 s rest)
    (elements_from e (block_at a u k + block_element_at a.parameters a.offset_size 0)
    (block_elements a.parameters u) s rest)

-- The data blocks of super block u, j of them from k on. Those that the index block names are walked up to the count;
-- a super block reached by the walk has every defined data block tested, also past the count.
unfoldable pub blocks_from : Array → Elements → ℕ → ℕ → ℕ → ℕ → Listing → Listing
blocks_from a e u zero k s rest = rest
blocks_from a e u (suc j) k s rest =
    let next = blocks_from a e u j (k + 1) (s + block_elements a.parameters u) rest in
    cond (is_direct a u && leb e.count s) rest
    (cond (block_undefined a u k) next (block a e u k s next))

-- the super blocks, j of them from u on, up to the count
unfoldable pub supers_from : Array → Elements → ℕ → ℕ → ℕ → Listing → Listing
supers_from a e zero u s rest = rest
supers_from a e (suc j) u s rest =
    let next = supers_from a e j (u + 1) (s + blocks u * block_elements a.parameters u) rest in
    cond (leb e.count s) rest
    (cond (is_direct a u) (blocks_from a e u (blocks u) 0 s next)
    (cond (super_undefined a u) next
    (test_of a (super_block u) yields blocks_from a e u (blocks u) 0 s next)))

-- behind the inline elements: 1, since the index block has a pointer at least and all are read before the first is
-- followed; the super blocks
unfoldable pub behind_inline : Array → Elements → Listing
behind_inline a e =
    cond (leb e.count a.parameters.idx_blk_elmts) (Ok [])
    (offset_size_test a.offset_size
    yields supers_from a e (super_blocks a.parameters) 0 a.parameters.idx_blk_elmts (Ok []))

-- the inline elements, and what is behind them
abbrev pub from_inline : Array → Elements → Listing
from_inline a e =
    elements_from e (a.index_at + inline_element_at a.parameters a.offset_size 0) a.parameters.idx_blk_elmts 0
    (behind_inline a e)

-- the way into the array, then the walk in slot order
unfoldable pub walk : Array → Elements → Listing
walk a e = array_test a yields from_inline a e

-- List: 3 to 8, then 27 and the walk.
unfoldable pub list : Array → Elements → Listing
list a e = grid_test e.grid yields walk a e
