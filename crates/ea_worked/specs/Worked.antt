-- A file of 504 bytes with two chunks: O = L = 8, header at 0, unfiltered, max bits 32, least block elements 16,
-- super block minimum 4, inline 2, page exponent 10, count 3. The inline addresses are 4096 and undefined, the first
-- data block opens with 8192, all other pointers and elements are undefined.
use Rattle.std.specs.Prelude.{ℕ, true, List, [], ◌∷◌, ◌++◌, replicate}
use Rattle.refusal.specs.Refusals.{largest64}
use Rattle.fields.specs.LittleEndian.{le_bytes}
use Rattle.chunk_grid.specs.Grid.{Grid}
use Rattle.index.specs.Index.{Rec}
use Rattle.ea_worked.specs.Files.{Sample, undefined_bytes, sample_at}

-- 72 bytes at 0, the index block at 72
abbrev pub header : List ℕ
header =
    0x45 ∷ 0x41 ∷ 0x48 ∷ 0x44 ∷ 0 ∷ 0 ∷ 8 ∷ 32 ∷ 2 ∷ 16 ∷ 4 ∷ 10
    ∷ replicate 32 0 ++ le_bytes 8 3 ++ le_bytes 8 18 ++ le_bytes 8 72 ++ le_bytes 4 439

-- 282 bytes at 72, the first data block at 354
abbrev pub index : List ℕ
index =
    0x45 ∷ 0x41 ∷ 0x49 ∷ 0x42 ∷ 0 ∷ 0
    ∷ le_bytes 8 0 ++ le_bytes 8 4096 ++ undefined_bytes 8 ++ le_bytes 8 354 ++ undefined_bytes 240 ++ le_bytes 4 63_628

-- 150 bytes at 354
abbrev pub first : List ℕ
first = 0x45 ∷ 0x41 ∷ 0x44 ∷ 0x42 ∷ 0 ∷ 0
    ∷ le_bytes 8 0 ++ le_bytes 4 0 ++ le_bytes 8 8192 ++ undefined_bytes 120 ++ le_bytes 4 30_900

unfoldable pub file : List ℕ
file = header ++ index ++ first

-- order U, rank 1, chunk length 10, present extent 25, unlimited
unfoldable pub grid : Grid
grid = record {
  rank = 1;
  chunk = 10 ∷ [];
  present = 25 ∷ [];
  has_maximum = true;
  maximum = largest64
      ∷ [];
  unlimited_first = true;
}

-- elements of 4 bytes
unfoldable pub sample : Sample
sample = sample_at file 0 8 8 grid 4

unfoldable pub chunks : List Rec
chunks =
    record { entry = record { address = 4096; size = 40; mask = 0 }; corner = 0 ∷ [] }
    ∷ record { entry = record { address = 8192; size = 40; mask = 0 }; corner = 20 ∷ [] }
    ∷ []
