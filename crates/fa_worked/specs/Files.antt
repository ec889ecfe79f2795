-- Calls on small files. Their checksum is the sum of the bytes, which a proof can compute.
use Rattle.std.specs.Prelude.{ℕ, ◌/◌, List, ◌++◌, replicate, Option}
use Rattle.refusal.specs.Refusals.{Outcome}
use Rattle.refusal.specs.declared.Refusal.{Refusal}
use Rattle.refusal.specs.Outcome.{◌yields◌, in_room}
use Rattle.fields.specs.LittleEndian.{le_bytes}
use Rattle.chunk_grid.specs.Grid.{total}
use Rattle.calls.specs.Call.{Call}
use Rattle.index.specs.Index.{Index, Rec, Listing}
use Rattle.elements.specs.Elements.{Elements}
use Rattle.records.specs.Records.{record_length}
use Rattle.located.specs.Located.{index_of}
use Rattle.fa_header.specs.declared.FixedArrayHeader.{FixedArrayHeader}
use Rattle.fa_header.specs.Header.{fixed_header_at, fixed_header_test}
use Rattle.fa_blocks.specs.FixedArray.{FixedArray}
use Rattle.fa_walk.specs.Walk.{fixed_elements_in, fixed_located, fixed_list, fixed_lookup}

abbrev pub byte_sum : List ℕ → ℕ
byte_sum s = total s

-- a structure's bytes with their checksum behind them
unfoldable pub sealed : List ℕ → List ℕ
sealed s = s ++ le_bytes 4 (byte_sum s)

-- n bytes with all bits set: an undefined address
unfoldable pub undefined_bytes : ℕ → List ℕ
undefined_bytes n = replicate n 0xff

-- the array that a header heads, with offset size o
unfoldable pub array_from : List ℕ → FixedArrayHeader → ℕ → FixedArray
array_from f h o = record { file = f; sum = byte_sum; header = h; offset_size = o }

-- the header at a call's address, ..
unfoldable pub header_in : Call → FixedArrayHeader
header_in c = fixed_header_at c.file c.address c.offset_size c.length_size

-- .. its array, elements and index, ..
unfoldable pub array_in : Call → FixedArray
array_in c = array_from c.file (header_in c) c.offset_size

unfoldable pub elements_in : Call → Elements
elements_in c = fixed_elements_in c.file (header_in c) c.offset_size c.grid c.element_bytes

abbrev pub index_in : Call → Index
index_in c = index_of (fixed_located (array_in c) (elements_in c))

-- .. and, behind the header's test, its list, the list that is written into n bytes, and its lookup
unfoldable pub list_of : Call → Listing
list_of c =
    fixed_header_test byte_sum c.file c.address c.offset_size c.length_size
    yields fixed_list (array_in c) (elements_in c)

unfoldable pub list_in : Call → ℕ → Listing
list_in c n = in_room (list_of c) (n / record_length c.grid.rank)

unfoldable pub lookup_in : Call → List ℕ → Outcome (Option Rec)
lookup_in c corner =
    fixed_header_test byte_sum c.file c.address c.offset_size c.length_size
    yields fixed_lookup (array_in c) (elements_in c) corner

-- a call, and what its list is refused with
pub record Case : Type 0 where
  pub call : Call
  pub refusal : Refusal

abbrev pub refusing : Call → Refusal → Case
refusing c r = record { call = c; refusal = r }
