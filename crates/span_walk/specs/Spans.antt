-- The span of each structure: where it begins, and its bytes.
use Rattle.std.specs.Prelude.{ℕ, ◌+◌, cond, ltb}
use Rattle.refusal.specs.declared.Refusal.TheVariants.{SpanOverflow}
use Rattle.refusal.specs.Refusals.{refuse, figure, largest64, ◌then◌, Checked}
use Rattle.ea_header.specs.Header.{header_bytes}
use Rattle.ea_header.specs.declared.Parameters.{Parameters}
use Rattle.ea_geometry.specs.Sizes.{over_page}
use Rattle.ea_geometry.specs.Extents.{data_extent, paged_extent}
use Rattle.ea_blocks.specs.Array.{Array}
use Rattle.ea_blocks.specs.Structures.{Structure, index_block, super_block, data_block, data_page, start_of, extent_of}
use Rattle.ea_blocks.specs.Structures.{test_of}
use Rattle.span_walk.specs.declared.Span.{Span}

-- the header's span, 16 + 6L + O bytes with the sizes as given
unfoldable pub header_span : ℕ → ℕ → ℕ → Span
header_span address o l = record { address = address; length = header_bytes o l }

-- A data block has the paged size where its element count exceeds the page, also where the index block names it.
unfoldable pub block_length : Parameters → ℕ → ℕ → ℕ
block_length h o u = cond (over_page h u) (paged_extent h o u) (data_extent h o u)

-- How many bytes a structure has: of a data block with pages all of them, otherwise those that its test covers.
unfoldable pub bytes_of : Array → Structure → ℕ
bytes_of a index_block = extent_of a index_block
bytes_of a (super_block u) = extent_of a (super_block u)
bytes_of a (data_block u k) = block_length a.parameters a.offset_size u
bytes_of a (data_page u k p) = extent_of a (data_page u k p)

unfoldable pub span_of : Array → Structure → Span
span_of a x = record { address = start_of a x; length = bytes_of a x }

-- 31: address plus length past 2^64 − 1 (both). The sum is exact.
unfoldable pub span_test : Span → Checked
span_test s = refuse (SpanOverflow s.address (figure s.length)) (ltb largest64 (s.address + s.length))

-- 31 before 20, signature and checksum
unfoldable pub spanned_test : Array → Structure → Checked
spanned_test a x = span_test (span_of a x) then test_of a x
