-- Worked values, as one table: each row is what the definitions compute, and the value.
use Rattle.std.specs.Prelude.{ℕ, ◌≡◌, Bool, true, false, List, [], ◌∷◌, ◌++◌, Err, Ok, Option, Some}
use Rattle.refusal.specs.declared.Refusal.TheVariants.{OffsetSize, LengthSize, Rank, PresentRank, MaximumRank}
use Rattle.refusal.specs.declared.Refusal.TheVariants.{ChunkLength, Unlimited, TooManyChunks, ListTooSmall, Corner}
use Rattle.refusal.specs.declared.Refusal.TheVariants.{PastEnd, HeaderSignature, HeaderVersion, IndexBlockSignature}
use Rattle.refusal.specs.declared.Refusal.TheVariants.{DataBlockSignature, SuperBlockSignature, Checksum}
use Rattle.refusal.specs.declared.Refusal.TheVariants.{HeaderNotServed, ElementSize, SizeField, Size, SpanOverflow}
use Rattle.refusal.specs.declared.Refusal.TheVariants.{NumbersNothing, OffsetOverflow, FixedHeaderSignature}
use Rattle.refusal.specs.declared.Refusal.TheVariants.{FixedDataBlockSignature}
use Rattle.refusal.specs.Refusals.{largest64, Outcome}
use Rattle.refusal.specs.Numbers.{told}
use Rattle.fields.specs.LittleEndian.{le_bytes}
use Rattle.chunk_grid.specs.Grid.{Grid, offsets, grid_test}
use Rattle.structures.specs.PageBits.{bit_byte, bit_mask}
use Rattle.index.specs.Index.{Rec}
use Rattle.elements.specs.Elements.{Elements, size_at, element}
use Rattle.ea_header.specs.Header.{header_bytes}
use Rattle.ea_header.specs.declared.Parameters.{Parameters}
use Rattle.ea_geometry.specs.Sizes.{block_elements, direct_super_blocks, direct_pointers, super_pointers, over_page}
use Rattle.ea_geometry.specs.Sizes.{pages, bitmap_bytes, bit_number}
use Rattle.ea_geometry.specs.Extents.{index_extent, data_extent}
use Rattle.ea_geometry.specs.Place.{place}
use Rattle.ea_geometry.specs.declared.Place.TheVariants.{Inline, Block}
use Rattle.ea_worked.specs.Worked.{grid}

-- A row: what the definitions compute, and the value, both of the row's own type.
pub record Row : Type 1 where
  pub Answer : Type 0
  pub computed : Answer
  pub value : Answer

infix 5 ◌is◌
abbrev pub ◌is◌ : {A : Type 0} → A → A → Row
◌is◌ {A} x y = record { Answer = A; computed = x; value = y }

-- in every row both are equal
unfoldable pub Agree : List Row → Type 0
Agree [] = Unit {0}
Agree (r ∷ l) = (r.computed ≡ r.value) × Agree l

-- an unfiltered array with max bits 32, least block elements 16, super block minimum 4, page exponent 10, and this
-- inline count
abbrev pub parameters : ℕ → Parameters
parameters inline = record {
  client_id = 0;
  element_size = 8;
  max_nelmts_bits = 32;
  idx_blk_elmts = inline;
  min_dblk_nelmts = 16;
  super_blk_min_nelmts = 4;
  max_dblk_nelmts_bits = 10;
}

-- filtered elements of n bytes with O = 8 in these bytes
abbrev pub filtered_in : List ℕ → ℕ → Elements
filtered_in bytes n = record {
  file = bytes;
  form = record { client_id = 1; element_size = n; offset_size = 8 };
  grid = grid;
  element_bytes = 4;
  count = 3;
}

-- an address 1, a size in 8 bytes, and a mask 3
abbrev pub sized : ℕ → List ℕ
sized n = le_bytes 8 1 ++ le_bytes 8 n ++ le_bytes 4 3

-- what is read there of slot 0 with elements of n bytes, the size being 2
abbrev pub read : ℕ → Outcome (Option Rec)
read n = element (filtered_in (sized 2) n) 0 0

abbrev pub chunk : ℕ → ℕ → ℕ → Outcome (Option Rec)
chunk address size mask =
    Ok (Some (record { entry = record { address = address; size = size; mask = mask }; corner = 0 ∷ [] }))

-- chunk 10 by 5, maximum 20 by unlimited; true for order U, false for order R
abbrev pub twenty : Bool → Grid
twenty unlimited_first = record {
  rank = 2;
  chunk = 10 ∷ 5 ∷ [];
  present = 20 ∷ 50 ∷ [];
  has_maximum = true;
  maximum = 20 ∷ largest64 ∷ [];
  unlimited_first = unlimited_first;
}

unfoldable pub table : List Row
table =
    -- O = L = 8: header 72 bytes.
    (header_bytes 8 8 is 72)
    -- Max bits 32, m 16, minimum 4, inline 2: 6 direct and 25 super pointers,
    ∷ (direct_pointers (parameters 2) is 6)
    ∷ (super_pointers (parameters 2) is 25)
    -- unfiltered index block 282 bytes,
    ∷ (index_extent (parameters 2) 8 is 282)
    -- first data block 150 bytes,
    ∷ (data_extent (parameters 2) 8 0 is 150)
    -- holding slots 2 to 17;
    ∷ (place (parameters 2) 1 is Inline 1)
    ∷ (place (parameters 2) 2 is Block 0 0 0)
    ∷ (place (parameters 2) 17 is Block 0 0 15)
    ∷ (place (parameters 2) 18 is Block 1 0 0)
    -- with inline 4, slot 243 is the last direct, 244 opens super block 4.
    ∷ (direct_super_blocks (parameters 4) is 4)
    ∷ (place (parameters 4) 243 is Block 3 1 63)
    ∷ (place (parameters 4) 244 is Block 4 0 0)
    -- Page exponent 10: super block 12 has 1,024 elements a block, unpaged;
    ∷ (block_elements (parameters 2) 12 is 1024)
    ∷ (over_page (parameters 2) 12 is false)
    -- 13 has 2,048, two pages, 64 bytes of bits;
    ∷ (block_elements (parameters 2) 13 is 2048)
    ∷ (over_page (parameters 2) 13 is true)
    ∷ (pages (parameters 2) 13 is 2)
    ∷ (bitmap_bytes (parameters 2) 13 is 64)
    -- block 3 page 1 is byte 0 mask 0x01.
    ∷ (bit_byte (bit_number (parameters 2) 13 3 1) is 0)
    ∷ (bit_mask (bit_number (parameters 2) 13 3 1) is 0x01)
    -- Filtered, O = 8: element size 11 is 28,
    ∷ (read 11 is Err ElementSize)
    ∷ (told ElementSize is 28 ∷ 0 ∷ 0 ∷ [])
    -- 12 reads size 0 (and the mask behind the address);
    ∷ (read 12 is chunk 1 0 2)
    -- 20 reads 8 bytes,
    ∷ (size_at (filtered_in (sized 0x0807_0605_0403_0201) 20) 0 is 0x0807_0605_0403_0201)
    ∷ (read 20 is chunk 1 2 3)
    -- 21 is 29.
    ∷ (read 21 is Err SizeField)
    ∷ (told SizeField is 29 ∷ 0 ∷ 0 ∷ [])
    -- Chunk 10 by 5, maximum 20 by unlimited: order U, slot 5 is corner (10, 10);
    ∷ (grid_test (twenty true) is (Ok tt))
    ∷ (offsets (twenty true) 5 is 10 ∷ 10 ∷ [])
    -- order R is 7.
    ∷ (grid_test (twenty false) is Err Unlimited)
    ∷ (told Unlimited is 7 ∷ 0 ∷ 0 ∷ [])
    ∷ []

-- the other refusals as C and the documents name them, by figures of their own
unfoldable pub refusals : List Row
refusals =
    (told (OffsetSize 3) is 1 ∷ 3 ∷ 0 ∷ [])
    ∷ (told (LengthSize 3) is 2 ∷ 3 ∷ 0 ∷ [])
    ∷ (told Rank is 3 ∷ 0 ∷ 0 ∷ [])
    ∷ (told PresentRank is 4 ∷ 0 ∷ 0 ∷ [])
    ∷ (told MaximumRank is 5 ∷ 0 ∷ 0 ∷ [])
    ∷ (told ChunkLength is 6 ∷ 0 ∷ 0 ∷ [])
    ∷ (told TooManyChunks is 8 ∷ 0 ∷ 0 ∷ [])
    ∷ (told (ListTooSmall 5) is 9 ∷ 5 ∷ 0 ∷ [])
    ∷ (told Corner is 10 ∷ 0 ∷ 0 ∷ [])
    ∷ (told (PastEnd 383 382) is 20 ∷ 383 ∷ 382 ∷ [])
    ∷ (told HeaderSignature is 21 ∷ 0 ∷ 0 ∷ [])
    ∷ (told (HeaderVersion 1) is 22 ∷ 1 ∷ 0 ∷ [])
    ∷ (told IndexBlockSignature is 23 ∷ 0 ∷ 0 ∷ [])
    ∷ (told DataBlockSignature is 24 ∷ 0 ∷ 0 ∷ [])
    ∷ (told SuperBlockSignature is 25 ∷ 0 ∷ 0 ∷ [])
    ∷ (told (Checksum 309 308) is 26 ∷ 309 ∷ 308 ∷ [])
    ∷ (told HeaderNotServed is 27 ∷ 0 ∷ 0 ∷ [])
    ∷ (told (Size 4_294_967_296) is 30 ∷ 4_294_967_296 ∷ 0 ∷ [])
    ∷ (told (SpanOverflow 18 17) is 31 ∷ 18 ∷ 17 ∷ [])
    ∷ (told NumbersNothing is 32 ∷ 0 ∷ 0 ∷ [])
    ∷ (told OffsetOverflow is 33 ∷ 0 ∷ 0 ∷ [])
    ∷ (told FixedHeaderSignature is 34 ∷ 0 ∷ 0 ∷ [])
    ∷ (told FixedDataBlockSignature is 35 ∷ 0 ∷ 0 ∷ [])
    ∷ []
