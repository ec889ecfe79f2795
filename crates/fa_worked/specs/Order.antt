-- Calls with many faults, each with one fault less than the one before it: what is refused in which order.
use Rattle.std.specs.Prelude.{ℕ, ◌^◌, List, [], ◌∷◌, ◌++◌, take, set}
use Rattle.refusal.specs.declared.Refusal.TheVariants.{OffsetSize, LengthSize, Rank, PresentRank, MaximumRank}
use Rattle.refusal.specs.declared.Refusal.TheVariants.{ChunkLength, Unlimited, TooManyChunks, ListTooSmall}
use Rattle.refusal.specs.declared.Refusal.TheVariants.{PastEnd, HeaderVersion, Checksum, HeaderNotServed}
use Rattle.refusal.specs.declared.Refusal.TheVariants.{ElementSize, NumbersNothing}
use Rattle.refusal.specs.declared.Refusal.TheVariants.{FixedHeaderSignature, FixedDataBlockSignature}
use Rattle.refusal.specs.Refusals.{largest64}
use Rattle.calls.specs.Call.{Call, call_of}
use Rattle.chunk_grid.specs.Grid.{Grid}
use Rattle.fa_worked.specs.Files.{Case, refusing}
use Rattle.fa_worked.specs.Pages.{block, file, grid_in, call_on}
use Rattle.fa_worked.specs.Refused.{header_with}

-- shapes with three faults and more: ranks, a chunk length 0, an unlimited dimension
abbrev pub shapeless : Grid
shapeless = grid_in 2 (0 ∷ []) [] []

-- on a grid that numbers nothing
abbrev pub numberless : List ℕ → Call
numberless f = call_of f 2 2 0 4 (grid_in 2 (10 ∷ 5 ∷ []) (30 ∷ 10 ∷ []) (30 ∷ 0 ∷ []))

-- the header's signature, version, sizes and checksum
unfoldable pub in_header : List Case
in_header =
    let f = set (set (set file 12 0) 4 1) 0 0 in
    refusing (call_of (take 17 f) 3 3 0 4 shapeless) (PastEnd 18 17)
    ∷ refusing (call_of f 3 3 0 4 shapeless) FixedHeaderSignature
    ∷ refusing (call_of (set f 0 0x46) 3 3 0 4 shapeless) (HeaderVersion 1)
    ∷ refusing (call_of (set file 12 0) 3 3 0 4 shapeless) (LengthSize 3)
    ∷ refusing (call_of (set file 12 0) 3 2 0 4 shapeless) (OffsetSize 3)
    ∷ refusing (call_of (set file 12 0) 2 2 0 4 shapeless) (Checksum 256 308)
    ∷ []

-- the shapes, over a header that isn't served, without a data block
unfoldable pub in_shapes : List Case
in_shapes =
    let f = header_with 5 33 7 94 in
    refusing (call_of f 2 2 0 4 shapeless) Rank
    ∷ refusing (call_of f 2 2 0 4 (grid_in 2 (0 ∷ 5 ∷ []) [] [])) PresentRank
    ∷ refusing (call_of f 2 2 0 4 (grid_in 2 (0 ∷ 5 ∷ []) (30 ∷ 10 ∷ []) [])) MaximumRank
    ∷ refusing (call_of f 2 2 0 4 (grid_in 2 (0 ∷ 5 ∷ []) (30 ∷ 10 ∷ []) (2 ^ 63 ∷ largest64 ∷ []))) ChunkLength
    ∷ refusing (call_of f 2 2 0 4 (grid_in 2 (10 ∷ 5 ∷ []) (30 ∷ 10 ∷ []) (2 ^ 63 ∷ largest64 ∷ []))) Unlimited
    ∷ refusing (call_of f 2 2 0 4 (grid_in 2 (10 ∷ 5 ∷ []) (30 ∷ 10 ∷ []) (2 ^ 63 ∷ 2 ^ 63 ∷ []))) TooManyChunks
    ∷ []

-- page exponent, the data block's place and signature, element size, the rest of its head, page 0
unfoldable pub in_block : List Case
in_block =
    refusing (numberless (header_with 5 33 7 94)) HeaderNotServed
    ∷ refusing (numberless (header_with 5 1 7 94)) (PastEnd 102 16)
    ∷ refusing (numberless (header_with 5 1 7 16 ++ take 8 (set block 0 0))) FixedDataBlockSignature
    ∷ refusing (numberless (header_with 5 1 7 16 ++ take 8 block)) ElementSize
    ∷ refusing (numberless (take 24 file)) (PastEnd 29 24)
    ∷ refusing (numberless (take 29 (set file 25 0))) (Checksum 256 446)
    ∷ refusing (numberless (take 48 (set file 45 0))) (PastEnd 49 48)
    ∷ refusing (numberless (take 68 (set file 45 0))) (Checksum 768 939)
    ∷ []

-- page 0's elements, page 2, and a list without room
unfoldable pub behind : List Case
behind =
    refusing (numberless (take 68 file)) NumbersNothing
    ∷ refusing (call_on (take 68 file)) (PastEnd 89 68)
    ∷ refusing (call_on file) (ListTooSmall 3)
    ∷ []
