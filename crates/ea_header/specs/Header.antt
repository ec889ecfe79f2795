-- The header of an extensible array in a file.
use Rattle.std.specs.Prelude.{ℕ, ◌+◌, ◌*◌, List, get_or}
use Rattle.fields.specs.LittleEndian.{le_at}
use Rattle.fields.specs.Fields.{address_at}
use Rattle.structures.specs.Header.{signed_header_test}
use Rattle.ea_header.specs.declared.Parameters.{Parameters}
use Rattle.ea_header.specs.declared.ExtensibleArrayHeader.{ExtensibleArrayHeader}
use Rattle.refusal.specs.declared.Refusal.TheVariants.{HeaderSignature}
use Rattle.refusal.specs.Refusals.{Checked}

-- Header, 16 + 6L + O bytes: "EAHD", version 0, client, element size, max bits, inline count, least block elements,
-- super block minimum, page exponent, six L-byte statistics, index block address, checksum.
abbrev pub header_bytes : ℕ → ℕ → ℕ
header_bytes o l = 16 + 6 * l + o

-- statistic k, from 0 to 5, of the header at pos
unfoldable pub statistic : List ℕ → ℕ → ℕ → ℕ → ℕ
statistic f pos l k = le_at f (pos + 12 + k * l) l

-- its parameters
unfoldable pub parameters_at : List ℕ → ℕ → Parameters
parameters_at f pos = record {
  client_id = get_or f (pos + 5) 0;
  element_size = get_or f (pos + 6) 0;
  max_nelmts_bits = get_or f (pos + 7) 0;
  idx_blk_elmts = get_or f (pos + 8) 0;
  min_dblk_nelmts = get_or f (pos + 9) 0;
  super_blk_min_nelmts = get_or f (pos + 10) 0;
  max_dblk_nelmts_bits = get_or f (pos + 11) 0;
}

-- The fifth statistic is the published count.
unfoldable pub header_at : List ℕ → ℕ → ℕ → ℕ → ExtensibleArrayHeader
header_at f pos o l = record {
  parameters = parameters_at f pos;
  num_elements = statistic f pos l 4;
  index_block_address = address_at f (pos + 12 + 6 * l) o;
}

-- Header: 20, 21 ("EAHD"), 22, 2, 1, 26; 20 is tested with the sizes as given.
unfoldable pub header_test : (List ℕ → ℕ) → List ℕ → ℕ → ℕ → ℕ → Checked
header_test sum f pos o l = signed_header_test HeaderSignature 0x4448_4145 sum f pos (header_bytes o l) o l
