-- The list of a fixed array: which test comes when, and which records it gives; and the lookup.
use Rattle.std.specs.Prelude.{ℕ, ◌+◌, cond, List, [], Ok, Option}
use Rattle.refusal.specs.Refusals.{◌then◌, Outcome}
use Rattle.refusal.specs.Outcome.{◌yields◌}
use Rattle.chunk_grid.specs.Grid.{Grid, grid_test, corner_test, slot_of}
use Rattle.index.specs.Index.{Rec, Listing}
use Rattle.elements.specs.Elements.{Elements}
use Rattle.elements.specs.Runs.{elements_from, pages_from}
use Rattle.located.specs.Located.{Located, slot_path}
use Rattle.fa_header.specs.declared.FixedArrayHeader.{FixedArrayHeader}
use Rattle.fa_header.specs.Served.{fixed_served_test}
use Rattle.fa_geometry.specs.Layout.{fixed_form, is_paged, fixed_pages, fixed_element_at}
use Rattle.fa_blocks.specs.FixedArray.{FixedArray, fixed_block_at, never_stored}
use Rattle.fa_blocks.specs.Blocks.{fixed_block_test, fixed_pages_of, fixed_reached, fixed_path_test, fixed_position}

-- The elements of a header with this offset size, of a dataset with this grid and element size: the count is the
-- header's number of entries.
abbrev pub fixed_elements_in : List ℕ → FixedArrayHeader → ℕ → Grid → ℕ → Elements
fixed_elements_in file h o grid n =
    record { file = file; form = fixed_form h o; grid = grid; element_bytes = n; count = h.num_elements }

-- Where the elements of an array lie: each slot's element at its place.
abbrev pub fixed_located : FixedArray → Elements → Located
fixed_located a e = record {
  elements = e;
  tests = fixed_path_test a;
  reached = fixed_reached a;
  position = fixed_position a;
}

-- the elements of the data block, or its pages
unfoldable pub fixed_in_block : FixedArray → Elements → Listing
fixed_in_block a e =
    cond (is_paged a.header) (pages_from e (fixed_pages_of a) (fixed_pages a.header) 0 0 (Ok []))
    (elements_from e (fixed_block_at a + fixed_element_at a.header a.offset_size 0) a.header.num_elements 0
    (Ok []))

-- 27; nothing where nothing was ever stored; the data block, its elements or its pages in slot order
unfoldable pub fixed_walk : FixedArray → Elements → Listing
fixed_walk a e =
    fixed_served_test a.header
    yields cond (never_stored a) (Ok []) (fixed_block_test a yields fixed_in_block a e)

-- List: 3 to 8, then 27 and the walk.
unfoldable pub fixed_list : FixedArray → Elements → Listing
fixed_list a e = grid_test e.grid yields fixed_walk a e

-- Lookup: 3 to 8, 10, 27, then its path.
unfoldable pub fixed_lookup : FixedArray → Elements → List ℕ → Outcome (Option Rec)
fixed_lookup a e corner =
    grid_test e.grid then corner_test e.grid corner then fixed_served_test a.header
    yields slot_path (fixed_located a e) (slot_of e.grid corner)
