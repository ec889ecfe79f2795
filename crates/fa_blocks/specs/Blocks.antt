-- The structures of a fixed array: their tests, which pages are set, and the place of a slot in the file.
use Rattle.std.specs.Prelude.{ℕ, ◌+◌, ◌*◌, Bool, not, cond, ◌&&◌, ◌||◌, ltb, Ok}
use Rattle.refusal.specs.declared.Refusal.TheVariants.{SpanOverflow, FixedDataBlockSignature}
use Rattle.refusal.specs.Refusals.{largest64, figure, refuse, ◌then◌, Checked}
use Rattle.fields.specs.Fields.{in_file}
use Rattle.structures.specs.declared.Kind.TheVariants.{Signed, Page}
use Rattle.structures.specs.Structures.{signature_test, structure_test, Pages}
use Rattle.structures.specs.PageBits.{page_bit}
use Rattle.element_form.specs.Form.{room_test}
use Rattle.fa_geometry.specs.Layout.{fixed_form, fixed_page_elements, is_paged, fixed_prefix, fixed_page_stride}
use Rattle.fa_geometry.specs.Layout.{fixed_page_at, fixed_page_extent, page_of_slot, fixed_place, fixed_tested_extent}
use Rattle.fa_blocks.specs.FixedArray.{FixedArray, fixed_block_at, never_stored}

-- The data block: 20 on its first 6 + O bytes, 35 ("FADB"), 28 (also with no entries), then 20 and 26 of the block or,
-- paged, of its head with the page bits.
unfoldable pub fixed_block_test : FixedArray → Checked
fixed_block_test a =
    in_file a.file (fixed_block_at a) (fixed_prefix a.offset_size)
    then signature_test (Signed FixedDataBlockSignature 0x4244_4146) a.file (fixed_block_at a)
    then room_test (fixed_form a.header a.offset_size)
    then structure_test a.sum Page a.file (fixed_block_at a) (fixed_tested_extent a.header a.offset_size)

-- page p of it
unfoldable pub fixed_page_position : FixedArray → ℕ → ℕ
fixed_page_position a p = fixed_block_at a + fixed_page_at a.header a.offset_size p

unfoldable pub fixed_page_set : FixedArray → ℕ → Bool
fixed_page_set a p = page_bit a.file (fixed_block_at a + fixed_prefix a.offset_size) p

-- Page: 31 where its number times the stride passes 2^64 − 1 (number, stride), 20, 26.
unfoldable pub fixed_page_test : FixedArray → ℕ → Checked
fixed_page_test a p =
    let stride = fixed_page_stride a.header a.offset_size in
    refuse (SpanOverflow (figure p) (figure stride)) (ltb largest64 (p * stride))
    then structure_test a.sum Page a.file (fixed_page_position a p) (fixed_page_extent a.header a.offset_size p)

-- its pages
abbrev pub fixed_pages_of : FixedArray → Pages
fixed_pages_of a =
    record {
      size = fixed_page_elements a.header;
      set = fixed_page_set a;
      position = fixed_page_position a;
      test = fixed_page_test a;
    }

-- whether slot s lies in a page whose bit is set
unfoldable pub in_set_page : FixedArray → ℕ → Bool
in_set_page a s = is_paged a.header && fixed_page_set a (page_of_slot a.header s)

-- A place is reached if the data block's address is defined and its page bit (if any) is set.
unfoldable pub fixed_reached : FixedArray → ℕ → Bool
fixed_reached a s = not (never_stored a) && (not (is_paged a.header) || in_set_page a s)

-- the tests on the way to it: the data block, and its page if its bit is set
unfoldable pub fixed_path_test : FixedArray → ℕ → Checked
fixed_path_test a s =
    cond (never_stored a) (Ok tt)
    (fixed_block_test a then cond (in_set_page a s) (fixed_page_test a (page_of_slot a.header s)) (Ok tt))

-- the file's position of its element
unfoldable pub fixed_position : FixedArray → ℕ → ℕ
fixed_position a s = fixed_block_at a + fixed_place a.header a.offset_size s
