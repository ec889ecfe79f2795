-- A file of 101 bytes with filtered chunks and pages: O = L = 2, header at 0, data block at 16, client 1, element size
-- 8, page exponent 1, 7 entries in four pages. Pages 0, 2 and 3 are set; the last has one element.
use Rattle.std.specs.Prelude.{ℕ, ◌+◌, true, false, List, [], ◌∷◌, ◌++◌, replicate}
use Rattle.fields.specs.LittleEndian.{le_bytes}
use Rattle.chunk_grid.specs.Grid.{Grid}
use Rattle.calls.specs.Call.{Call, call_of}
use Rattle.index.specs.Index.{Rec}
use Rattle.fa_worked.specs.Files.{undefined_bytes}

-- the element of slot s: address 200 + s, size 300 + s, mask 70,000 + s
abbrev pub stored : ℕ → List ℕ
stored s = le_bytes 2 (200 + s) ++ le_bytes 2 (300 + s) ++ le_bytes 4 (70_000 + s)

-- an element without a chunk: only its address says so
abbrev pub unset : List ℕ
unset = undefined_bytes 2 ++ replicate 6 9

abbrev pub header : List ℕ
header = 0x46 ∷ 0x41 ∷ 0x48 ∷ 0x44 ∷ 0 ∷ 1 ∷ 8 ∷ 1 ∷ le_bytes 2 7 ++ le_bytes 2 16 ++ le_bytes 4 308

abbrev pub data_prefix : List ℕ
data_prefix = 0x46 ∷ 0x41 ∷ 0x44 ∷ 0x42 ∷ 0 ∷ 1 ∷ le_bytes 2 0

abbrev pub block : List ℕ
block =
    -- 16: the head
    data_prefix ++ 0b1011_0000 ∷ le_bytes 4 446
    -- 29: page 0, slots 0 and 1
    ++ stored 0 ++ unset ++ le_bytes 4 939
    -- 49: page 1, which was never written
    ++ replicate 20 9
    -- 69: page 2, slots 4 and 5
    ++ stored 4 ++ stored 5 ++ le_bytes 4 777
    -- 89: page 3, slot 6
    ++ stored 6 ++ le_bytes 4 393

unfoldable pub file : List ℕ
file = header ++ block

-- order R, with these shapes: rank, chunk, present, maximum
abbrev pub grid_in : ℕ → List ℕ → List ℕ → List ℕ → Grid
grid_in rank chunk present maximum = record {
  rank = rank;
  chunk = chunk;
  present = present;
  has_maximum = true;
  maximum = maximum;
  unlimited_first = false;
}

-- Slot s is corner (10 × (s / 3), 5 × (s mod 3)), dropped where the second is 10.
unfoldable pub grid : Grid
grid = grid_in 2 (10 ∷ 5 ∷ []) (30 ∷ 10 ∷ []) (30 ∷ 15 ∷ [])

-- the call on another file
unfoldable pub call_on : List ℕ → Call
call_on f = call_of f 2 2 0 4 grid

abbrev pub call : Call
call = call_on file

-- the record of slot s at this corner
abbrev pub record_at_slot : ℕ → List ℕ → Rec
record_at_slot s corner =
    record { entry = record { address = 200 + s; size = 300 + s; mask = 70_000 + s }; corner = corner }

-- Slot 5 holds an address too, but is dropped.
unfoldable pub chunks : List Rec
chunks = record_at_slot 0 (0 ∷ 0 ∷ []) ∷ record_at_slot 4 (10 ∷ 5 ∷ []) ∷ record_at_slot 6 (20 ∷ 0 ∷ []) ∷ []
