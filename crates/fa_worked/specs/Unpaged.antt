-- A file of 51 bytes with an unpaged data block: O = 4, L = 2, header at 3, data block at 21, unfiltered, page exponent
-- 2, 4 entries, which are as many as a page has elements.
use Rattle.std.specs.Prelude.{ℕ, false, List, [], ◌∷◌, ◌++◌, replicate, take, set}
use Rattle.refusal.specs.declared.Refusal.TheVariants.{PastEnd, Checksum, Size, FixedDataBlockSignature}
use Rattle.fields.specs.LittleEndian.{le_bytes}
use Rattle.chunk_grid.specs.Grid.{Grid}
use Rattle.calls.specs.Call.{Call, call_of}
use Rattle.index.specs.Index.{Rec}
use Rattle.fa_worked.specs.Files.{undefined_bytes, Case, refusing}

unfoldable pub file : List ℕ
file =
    replicate 3 9
    -- 3: the header
    ++ 0x46 ∷ 0x41 ∷ 0x48 ∷ 0x44 ∷ 0 ∷ 0 ∷ 4 ∷ 2
    ∷ le_bytes 2 4 ++ le_bytes 4 21 ++ le_bytes 4 306
    -- 21: the data block; its third address, 65,535 in 4 bytes, is defined
    ++ 0x46 ∷ 0x41 ∷ 0x44 ∷ 0x42 ∷ 0 ∷ 0
    ∷ le_bytes 4 3 ++ le_bytes 4 4096 ++ undefined_bytes 4 ++ le_bytes 4 0xffff ++ le_bytes 4 8192 ++ le_bytes 4 1850

-- rank 1, chunk length 10, present extent 35, no maximum, order R
unfoldable pub grid : Grid
grid = record {
  rank = 1;
  chunk = 10 ∷ [];
  present = 35 ∷ [];
  has_maximum = false;
  maximum = [];
  unlimited_first = false;
}

-- the call on another file, with elements of n bytes
unfoldable pub call_on : List ℕ → ℕ → Call
call_on f n = call_of f 4 2 3 n grid

-- elements of 4 bytes
abbrev pub call : Call
call = call_on file 4

abbrev pub chunk : ℕ → ℕ → Rec
chunk address offset = record { entry = record { address = address; size = 40; mask = 0 }; corner = offset ∷ [] }

unfoldable pub chunks : List Rec
chunks = chunk 4096 0 ∷ chunk 0xffff 20 ∷ chunk 8192 30 ∷ []

-- What list and lookup are refused with: the data block's first bytes, its signature, its end, its checksum, and the
-- size of a chunk.
unfoldable pub refusals : List Case
refusals =
    refusing (call_on (take 30 file) 4) (PastEnd 31 30)
    ∷ refusing (call_on (set file 21 0) 4) FixedDataBlockSignature
    ∷ refusing (call_on (take 50 file) 4) (PastEnd 51 50)
    ∷ refusing (call_on (set file 47 0x3b) 4) (Checksum 1851 1850)
    ∷ refusing (call_on file 429_496_730) (Size 4_294_967_300)
    ∷ []
