-- Datasets in small files. Their checksum is the sum of the bytes, which a proof can compute.
use Rattle.std.specs.Prelude.{ℕ, ◌/◌, List, replicate, Option}
use Rattle.refusal.specs.Refusals.{Outcome}
use Rattle.refusal.specs.Outcome.{◌yields◌, in_room}
use Rattle.chunk_grid.specs.Grid.{Grid, total}
use Rattle.index.specs.Index.{Index, Rec, Listing}
use Rattle.elements.specs.Elements.{Elements}
use Rattle.records.specs.Records.{record_length}
use Rattle.located.specs.Located.{index_of}
use Rattle.ea_header.specs.declared.ExtensibleArrayHeader.{ExtensibleArrayHeader}
use Rattle.ea_header.specs.Header.{header_at, header_test}
use Rattle.ea_blocks.specs.Array.{Array}
use Rattle.ea_walk.specs.Walk.{located, list, elements_in}
use Rattle.ea_lookup.specs.Lookup.{lookup}

abbrev pub byte_sum : List ℕ → ℕ
byte_sum s = total s

-- n bytes with all bits set: undefined addresses
unfoldable pub undefined_bytes : ℕ → List ℕ
undefined_bytes n = replicate n 0xff

-- the array and the elements of a dataset
pub record Sample : Type 0 where
  pub array : Array
  pub elements : Elements

-- of a file with this header, with offset size o and elements of n bytes in the dataset
unfoldable pub sample_on : List ℕ → ExtensibleArrayHeader → ℕ → Grid → ℕ → Sample
sample_on f h o g n = record {
  array = record {
    file = f;
    sum = byte_sum;
    parameters = h.parameters;
    offset_size = o;
    index_at = h.index_block_address;
  };
  elements = elements_in f h o g n;
}

-- where the header stands at pos and was read with offset size o and length size l
unfoldable pub sample_at : List ℕ → ℕ → ℕ → ℕ → Grid → ℕ → Sample
sample_at f pos o l g n = sample_on f (header_at f pos o l) o g n

-- its list, ..
abbrev pub list_of : Sample → Listing
list_of s = list s.array s.elements

-- .. the list that is written into n bytes, ..
abbrev pub list_in : Sample → ℕ → Listing
list_in s n = in_room (list_of s) (n / record_length s.elements.grid.rank)

-- .. its lookup, and the index that they are of
abbrev pub lookup_in : Sample → List ℕ → Outcome (Option Rec)
lookup_in s corner = lookup s.array s.elements corner

abbrev pub index_in : Sample → Index
index_in s = index_of (located s.array s.elements)

-- both with the header's test first
unfoldable pub list_at : List ℕ → ℕ → ℕ → ℕ → Grid → ℕ → Listing
list_at f pos o l g n = header_test byte_sum f pos o l yields list_of (sample_at f pos o l g n)

unfoldable pub lookup_at : List ℕ → ℕ → ℕ → ℕ → Grid → ℕ → List ℕ → Outcome (Option Rec)
lookup_at f pos o l g n corner = header_test byte_sum f pos o l yields lookup_in (sample_at f pos o l g n) corner
