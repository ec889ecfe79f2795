-- Calls on the file with pages, and on others, that are refused.
use Rattle.std.specs.Prelude.{ℕ, ◌-◌, ◌^◌, List, [], ◌∷◌, ◌++◌, take, set}
use Rattle.refusal.specs.declared.Refusal.{Refusal}
use Rattle.refusal.specs.declared.Refusal.TheVariants.{OffsetSize, LengthSize, Rank, PresentRank, MaximumRank}
use Rattle.refusal.specs.declared.Refusal.TheVariants.{ChunkLength, Unlimited, TooManyChunks, PastEnd}
use Rattle.refusal.specs.declared.Refusal.TheVariants.{HeaderVersion, Checksum, HeaderNotServed, ElementSize}
use Rattle.refusal.specs.declared.Refusal.TheVariants.{SizeField, Size, NumbersNothing, OffsetOverflow}
use Rattle.refusal.specs.declared.Refusal.TheVariants.{FixedHeaderSignature, FixedDataBlockSignature}
use Rattle.refusal.specs.Refusals.{largest64}
use Rattle.fields.specs.LittleEndian.{le_bytes}
use Rattle.calls.specs.Call.{call_of}
use Rattle.index.specs.Index.{Rec}
use Rattle.fa_worked.specs.Files.{sealed, Case, refusing}
use Rattle.fa_worked.specs.Pages.{data_prefix, block, file, grid_in, grid, call_on}

-- a header at 0 of a filtered array with O = L = 2: element size, page exponent, entries, data block address
unfoldable pub header_with : ℕ → ℕ → ℕ → ℕ → List ℕ
header_with size exponent entries address =
    sealed (0x46 ∷ 0x41 ∷ 0x48 ∷ 0x44 ∷ 0 ∷ 1 ∷ size ∷ exponent ∷ le_bytes 2 entries ++ le_bytes 2 address)

-- a file whose data block holds at most one element: its size, the entries, the element's bytes
unfoldable pub small : ℕ → ℕ → List ℕ → List ℕ
small size entries element = header_with size 0 entries 16 ++ sealed (data_prefix ++ element)

-- an element of so many bytes with this chunk size
abbrev pub sized : ℕ → ℕ → List ℕ
sized size n = small size 1 (le_bytes 2 200 ++ le_bytes (size - 6) n ++ le_bytes 4 3)

-- its record
abbrev pub sized_record : ℕ → Rec
sized_record n = record { entry = record { address = 200; size = n; mask = 3 }; corner = 0 ∷ 0 ∷ [] }

-- another byte at pos
abbrev pub spoiling : ℕ → ℕ → Refusal → Case
spoiling pos byte = refusing (call_on (set file pos byte))

-- the first n bytes only, where a structure ends at `end`
abbrev pub cutting : ℕ → ℕ → Case
cutting n end = refusing (call_on (take n file)) (PastEnd end n)

-- the data block behind another header
abbrev pub headed : ℕ → ℕ → ℕ → ℕ → Refusal → Case
headed size exponent entries address = refusing (call_on (header_with size exponent entries address ++ block))

-- other shapes: rank, chunk, present, maximum
abbrev pub shaped : ℕ → List ℕ → List ℕ → List ℕ → Refusal → Case
shaped rank chunk present maximum = refusing (call_of file 2 2 0 4 (grid_in rank chunk present maximum))

-- What a lookup of slot 4 is refused with too: the header, the shapes, the data block, and page 2.
unfoldable pub on_path : List Case
on_path =
    cutting 15 16
    ∷ spoiling 0 0 FixedHeaderSignature
    ∷ spoiling 4 1 (HeaderVersion 1)
    ∷ refusing (call_of file 2 3 0 4 grid) (LengthSize 3)
    ∷ refusing (call_of file 3 2 0 4 grid) (OffsetSize 3)
    ∷ spoiling 12 0x35 (Checksum 309 308)
    ∷ shaped 33 (10 ∷ 5 ∷ []) (30 ∷ 10 ∷ []) (30 ∷ 15 ∷ []) Rank
    ∷ shaped 2 (10 ∷ []) (30 ∷ 10 ∷ []) (30 ∷ 15 ∷ []) Rank
    ∷ shaped 2 (10 ∷ 5 ∷ []) (30 ∷ []) (30 ∷ 15 ∷ []) PresentRank
    ∷ shaped 2 (10 ∷ 5 ∷ []) (30 ∷ 10 ∷ []) (30 ∷ []) MaximumRank
    ∷ shaped 2 (10 ∷ 0 ∷ []) (30 ∷ 10 ∷ []) (30 ∷ 15 ∷ []) ChunkLength
    ∷ shaped 2 (10 ∷ 5 ∷ []) (30 ∷ 10 ∷ []) (30 ∷ largest64 ∷ []) Unlimited
    ∷ shaped 2 (1 ∷ 1 ∷ []) (30 ∷ 10 ∷ []) (2 ^ 63 ∷ 2 ∷ []) TooManyChunks
    ∷ headed 8 33 7 16 HeaderNotServed
    ∷ headed 8 33 7 0xffff HeaderNotServed
    ∷ headed 8 1 7 94 (PastEnd 102 101)
    ∷ cutting 23 24
    ∷ spoiling 16 0 FixedDataBlockSignature
    ∷ headed 5 1 7 16 ElementSize
    ∷ cutting 28 29
    ∷ spoiling 25 0xbf (Checksum 447 446)
    ∷ cutting 88 89
    ∷ spoiling 85 0x0a (Checksum 778 777)
    ∷ []

-- And what it isn't: pages 0 and 3.
unfoldable pub beside_path : List Case
beside_path = spoiling 45 0xac (Checksum 940 939) ∷ cutting 100 101 ∷ spoiling 97 0x8a (Checksum 394 393) ∷ []

-- Elements too small and too large, the latter with a size that is too large too, and sizes past 2^32 − 1: so is a
-- lookup of slot 0.
unfoldable pub in_element : List Case
in_element =
    refusing (call_on (sized 5 0)) ElementSize
    ∷ refusing (call_on (sized 15 (2 ^ 32))) SizeField
    ∷ refusing (call_on (sized 11 (2 ^ 32))) (Size (2 ^ 32))
    ∷ refusing (call_on (sized 14 largest64)) (Size largest64)
    ∷ []

-- A count 0 of the second dimension, slot 4 times 2^62, and elements too small where there are none.
unfoldable pub list_only : List Case
list_only =
    shaped 2 (10 ∷ 5 ∷ []) (30 ∷ 10 ∷ []) (30 ∷ 0 ∷ []) NumbersNothing
    ∷ shaped 1 (2 ^ 62 ∷ []) (2 ^ 63 ∷ []) (2 ^ 63 ∷ []) OffsetOverflow
    ∷ refusing (call_on (small 5 0 [])) ElementSize
    ∷ []

-- bytes of the page that was never written
unfoldable pub unread : List ℕ
unread = 49 ∷ 64 ∷ 65 ∷ 68 ∷ []
