-- Worked values of arrays that are too large for a small file: what the definitions compute, and the value.
use Rattle.std.specs.Prelude.{ℕ, ◌-◌, ◌^◌, List, [], ◌∷◌, Err}
use Rattle.refusal.specs.declared.Refusal.TheVariants.{PastEnd, SpanOverflow}
use Rattle.refusal.specs.Refusals.{largest64, Checked}
use Rattle.fa_header.specs.declared.FixedArrayHeader.{FixedArrayHeader}
use Rattle.fa_header.specs.Header.{fixed_header_bytes}
use Rattle.fa_geometry.specs.Layout.{fixed_pages, fixed_page_at, fixed_page_extent, fixed_place, fixed_tested_extent}
use Rattle.fa_blocks.specs.FixedArray.{FixedArray}
use Rattle.fa_blocks.specs.Blocks.{fixed_block_test, fixed_page_test}
use Rattle.fa_worked.specs.Files.{array_from}

infix 5 ◌is◌
abbrev pub ◌is◌ : {A : Type 0} → A → A → A × A
x is y = (x, y)

-- unfiltered, page exponent 10, so many entries
abbrev pub unfiltered : ℕ → FixedArrayHeader
unfiltered entries = record {
  client_id = 0;
  element_size = 8;
  max_nelmts_bits = 10;
  num_elements = entries;
  data_block_address = 100;
}

-- filtered elements of 13 bytes with O = 8, a page each, of an empty file: entries and data block address
abbrev pub filtered : ℕ → ℕ → FixedArray
filtered entries address =
    array_from [] (record {
      client_id = 1;
      element_size = 13;
      max_nelmts_bits = 0;
      num_elements = entries;
      data_block_address = address;
    }) 8

unfoldable pub sizes : List (ℕ × ℕ)
sizes =
    -- O = L = 8: a header has 28 bytes,
    (fixed_header_bytes 8 8 is 28)
    -- 1,024 entries one page, ..
    ∷ (fixed_pages (unfiltered 1024) is 1)
    -- .. and stand in the block itself, behind 14 bytes;
    ∷ (fixed_tested_extent (unfiltered 1024) 8 is 8210)
    ∷ (fixed_place (unfiltered 1024) 8 1023 is 8198)
    -- one entry more makes two pages, whose bits take one byte,
    ∷ (fixed_pages (unfiltered 1025) is 2)
    ∷ (fixed_tested_extent (unfiltered 1025) 8 is 19)
    -- the last of one element,
    ∷ (fixed_page_extent (unfiltered 1025) 8 0 is 8196)
    ∷ (fixed_page_extent (unfiltered 1025) 8 1 is 12)
    ∷ (fixed_place (unfiltered 1025) 8 1023 is 8203)
    ∷ (fixed_place (unfiltered 1025) 8 1024 is 8215)
    -- and 9 pages have 2 bytes of bits.
    ∷ (fixed_tested_extent (unfiltered 8193) 8 is 20)
    ∷ (fixed_page_at (unfiltered 8193) 8 8 is 65_588)
    -- As many entries as can be, a page each.
    ∷ (fixed_pages (filtered largest64 0).header is largest64)
    ∷ []

unfoldable pub tests : List (Checked × Checked)
tests =
    -- 2^64 − 1 is 17 times 1,085,102,592,571,150,095: that page ends past it, the next one's number times the stride
    -- passes it.
    (fixed_page_test (filtered largest64 0) 1_085_102_592_571_150_095 is Err (PastEnd largest64 0))
    ∷ (fixed_page_test (filtered largest64 0) 1_085_102_592_571_150_096
    is Err (SpanOverflow 1_085_102_592_571_150_096 17))
    -- The data block's first 14 bytes end past 2^64 − 1, or at 14.
    ∷ (fixed_block_test (filtered 1 (2 ^ 64 - 2)) is Err (PastEnd largest64 0))
    ∷ (fixed_block_test (filtered 1 0) is Err (PastEnd 14 0))
    ∷ []
