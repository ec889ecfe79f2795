-- A file of 383 bytes with filtered chunks and pages: O = L = 2, header at 0, client 1, element size 8, max bits 4,
-- inline 1, least block elements 1, super block minimum 1, page exponent 1, count 17. So super block 0 is slot 1,
-- super block 1 slots 2 and 3, super block 2 two blocks of 2 from slot 4 on, super block 3 two blocks of two pages
-- from slot 8 on, super block 4 four such blocks from slot 16 on.
use Rattle.std.specs.Prelude.{ℕ, ◌+◌, Bool, true, List, [], ◌∷◌, ◌++◌, replicate, set}
use Rattle.refusal.specs.declared.Refusal.{Refusal}
use Rattle.refusal.specs.declared.Refusal.TheVariants.{Checksum, DataBlockSignature, HeaderNotServed}
use Rattle.refusal.specs.declared.Refusal.TheVariants.{IndexBlockSignature, SuperBlockSignature}
use Rattle.refusal.specs.Refusals.{largest64}
use Rattle.fields.specs.LittleEndian.{le_bytes}
use Rattle.chunk_grid.specs.Grid.{Grid}
use Rattle.index.specs.Index.{Rec}
use Rattle.ea_worked.specs.Files.{Sample, undefined_bytes, sample_at}

-- the element of slot s: address 200 + s, size 300 + s, mask 70,000 + s
abbrev pub stored : ℕ → List ℕ
stored s = le_bytes 2 (200 + s) ++ le_bytes 2 (300 + s) ++ le_bytes 4 (70_000 + s)

-- an element without a chunk: only its address says so
abbrev pub unset : List ℕ
unset = undefined_bytes 2 ++ replicate 6 9

-- a page that was never written
abbrev pub unwritten : List ℕ
unwritten = replicate 20 9

abbrev pub data_prefix : List ℕ
data_prefix = 0x45 ∷ 0x41 ∷ 0x44 ∷ 0x42 ∷ replicate 5 0

abbrev pub super_prefix : List ℕ
super_prefix = 0x45 ∷ 0x41 ∷ 0x53 ∷ 0x42 ∷ replicate 5 0

abbrev pub index_prefix : List ℕ
index_prefix = 0x45 ∷ 0x41 ∷ 0x49 ∷ 0x42 ∷ replicate 4 0

unfoldable pub file : List ℕ
file =
    -- 0: the header; the index block is at 353
    0x45 ∷ 0x41 ∷ 0x48 ∷ 0x44 ∷ 0 ∷ 1 ∷ 8 ∷ 4 ∷ 1 ∷ 1 ∷ 1 ∷ 1
    ∷ le_bytes 2 99 ++ le_bytes 2 99 ++ le_bytes 2 99 ++ le_bytes 2 99 ++ le_bytes 2 17 ++ le_bytes 2 99
    ++ le_bytes 2 353 ++ le_bytes 4 901
    -- 30: the data block of super block 0
    ++ data_prefix ++ stored 1 ++ le_bytes 4 646
    -- 51: data block 1 of super block 2, slots 6 and 7
    ++ data_prefix ++ stored 6 ++ unset ++ le_bytes 4 1225
    -- 80: super block 2; its data block 0 is undefined
    ++ super_prefix ++ undefined_bytes 2 ++ le_bytes 2 51 ++ le_bytes 4 844
    -- 97: data block 0 of super block 3; page 1, slots 10 and 11, is at 130
    ++ data_prefix ++ le_bytes 4 268 ++ unwritten ++ stored 10 ++ stored 11 ++ le_bytes 4 813
    -- 150: data block 1 of super block 3; page 0, slots 12 and 13, is at 163
    ++ data_prefix ++ le_bytes 4 268 ++ unset ++ stored 13 ++ le_bytes 4 978 ++ unwritten
    -- 203: super block 3; of the first block page 1 is set, of the second page 0
    ++ super_prefix ++ 0b0110_0000 ∷ 0 ∷ le_bytes 2 97 ++ le_bytes 2 150 ++ le_bytes 4 626
    -- 222: data block 0 of super block 4; page 0, slots 16 and 17, is at 235 and runs past the count, so that page 1
    -- is not looked at
    ++ data_prefix ++ le_bytes 4 268 ++ stored 16 ++ stored 17 ++ le_bytes 4 849 ++ unwritten
    -- 275: data block 2 of super block 4, all of it past the count; page 1 is at 308
    ++ data_prefix ++ le_bytes 4 268 ++ unwritten ++ stored 26 ++ stored 27 ++ le_bytes 4 909
    -- 328: super block 4; its data blocks 1 and 3 are undefined, also where page bits are set
    ++ super_prefix ++ 0b1111_0100 ∷ 0 ∷ 0 ∷ 0
    ∷ le_bytes 2 222 ++ undefined_bytes 2 ++ le_bytes 2 275 ++ undefined_bytes 2 ++ le_bytes 4 1789
    -- 353: the index block; super block 1 is undefined
    ++ index_prefix ++ stored 0 ++ le_bytes 2 30 ++ undefined_bytes 2 ++ le_bytes 2 80 ++ le_bytes 2 203
    ++ le_bytes 2 328 ++ le_bytes 4 1544

-- chunk 10 by 5, present 30 by 26, maximum 40 by unlimited; true for order U, false for order R
abbrev pub grid_in : Bool → Grid
grid_in unlimited_first = record {
  rank = 2;
  chunk = 10 ∷ 5 ∷ [];
  present = 30 ∷ 26 ∷ [];
  has_maximum = true;
  maximum = 40 ∷ largest64 ∷ [];
  unlimited_first = unlimited_first;
}

-- order U: slot s is corner (10 × (s mod 4), 5 × (s / 4)), dropped at 30
unfoldable pub grid : Grid
grid = grid_in true

unfoldable pub sample : Sample
sample = sample_at file 0 2 2 grid 4

-- the record of slot s at this corner
abbrev pub record_at_slot : ℕ → List ℕ → Rec
record_at_slot s corner =
    record { entry = record { address = 200 + s; size = 300 + s; mask = 70_000 + s }; corner = corner }

-- Slots 11 and 17 hold addresses too: 11 is dropped, 17 is past the count.
unfoldable pub chunks : List Rec
chunks =
    record_at_slot 0 (0 ∷ 0 ∷ [])
    ∷ record_at_slot 1 (10 ∷ 0 ∷ [])
    ∷ record_at_slot 6 (20 ∷ 5 ∷ [])
    ∷ record_at_slot 10 (20 ∷ 10 ∷ [])
    ∷ record_at_slot 13 (10 ∷ 15 ∷ [])
    ∷ record_at_slot 16 (0 ∷ 20 ∷ [])
    ∷ []

-- the dataset where the byte at pos is another
unfoldable pub spoiled : ℕ → ℕ → Sample
spoiled pos byte = sample_at (set file pos byte) 0 2 2 grid 4

-- such a byte, and the refusal that the list then gives
pub record Spoiling : Type 0 where
  pub pos : ℕ
  pub byte : ℕ
  pub refusal : Refusal

abbrev pub spoiling : ℕ → ℕ → Refusal → Spoiling
spoiling pos byte refusal = record { pos = pos; byte = byte; refusal = refusal }

-- In the header, 27; in structures that lead to slot 10, 26 with the stored sum and the computed one, and 23, 24, 25
-- for another signature, though the sum is wrong then too.
unfoldable pub on_path : List Spoiling
on_path =
    -- 3 for the least block elements
    spoiling 9 3 HeaderNotServed
    -- the index block
    ∷ spoiling 379 9 (Checksum 1545 1544)
    ∷ spoiling 353 0 IndexBlockSignature
    -- super block 3
    ∷ spoiling 218 0x73 (Checksum 627 626)
    ∷ spoiling 203 0 SuperBlockSignature
    -- the head of its data block 0
    ∷ spoiling 106 0x0d (Checksum 269 268)
    ∷ spoiling 97 0 DataBlockSignature
    -- page 1: its sum, and a byte of it
    ∷ spoiling 146 0x2e (Checksum 814 813)
    ∷ spoiling 130 0 (Checksum 813 603)
    ∷ []

-- And in others.
unfoldable pub beside_path : List Spoiling
beside_path =
    -- a data block that the index block names, and an unpaged one that a super block names
    spoiling 47 0x87 (Checksum 647 646)
    ∷ spoiling 30 0 DataBlockSignature
    ∷ spoiling 76 0xca (Checksum 1226 1225)
    ∷ spoiling 51 0 DataBlockSignature
    -- past the count: the head of a data block of a super block that is reached, and its first set page
    ∷ spoiling 284 0x0d (Checksum 269 268)
    ∷ spoiling 324 0x8e (Checksum 910 909)
    -- the count 18: a page that ends at the count doesn't end its data block, and the unwritten page behind it is
    -- tested
    ∷ spoiling 20 18 (Checksum 0x0909_0909 144)
    ∷ []

-- bytes of pages that are not looked at: a clear one, and one behind the page that runs past the count
unfoldable pub unread : List ℕ
unread = 110 ∷ 129 ∷ 255 ∷ 274 ∷ []
