-- The header of a fixed array in a file.
use Rattle.std.specs.Prelude.{ℕ, ◌+◌, List, get_or}
use Rattle.refusal.specs.declared.Refusal.TheVariants.{FixedHeaderSignature}
use Rattle.refusal.specs.Refusals.{Checked}
use Rattle.fields.specs.LittleEndian.{le_at}
use Rattle.fields.specs.Fields.{address_at}
use Rattle.structures.specs.Header.{signed_header_test}
use Rattle.fa_header.specs.declared.FixedArrayHeader.{FixedArrayHeader}

-- Header, 12 + L + O bytes: "FAHD", version 0, client, element size, page exponent, number of entries in L bytes, data
-- block address, checksum.
abbrev pub fixed_header_bytes : ℕ → ℕ → ℕ
fixed_header_bytes o l = 12 + l + o

unfoldable pub fixed_header_at : List ℕ → ℕ → ℕ → ℕ → FixedArrayHeader
fixed_header_at f pos o l = record {
  client_id = get_or f (pos + 5) 0;
  element_size = get_or f (pos + 6) 0;
  max_nelmts_bits = get_or f (pos + 7) 0;
  num_elements = le_at f (pos + 8) l;
  data_block_address = address_at f (pos + 8 + l) o;
}

-- Header: 20, 34 ("FAHD"), 22, 2, 1, 26; 20 is tested with the sizes as given.
unfoldable pub fixed_header_test : (List ℕ → ℕ) → List ℕ → ℕ → ℕ → ℕ → Checked
fixed_header_test sum f pos o l =
    signed_header_test FixedHeaderSignature 0x4448_4146 sum f pos (fixed_header_bytes o l) o l
