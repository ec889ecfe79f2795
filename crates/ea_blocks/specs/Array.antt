-- An extensible array in a file.
use Rattle.std.specs.Prelude.{ℕ, List}
use Rattle.checksum.specs.Lookup3.{lookup3}
use Rattle.ea_header.specs.declared.Parameters.{Parameters}
use Rattle.ea_header.specs.declared.ExtensibleArrayHeader.{ExtensibleArrayHeader}

-- The file, the checksum, the array's parameters, the size of an address, and the file's position of the index block.
-- The checksum is lookup3 in every contract; another stands in its place only where a small file is computed by hand.
pub record Array : Type 0 where
  pub file : List ℕ
  pub sum : List ℕ → ℕ
  pub parameters : Parameters
  pub offset_size : ℕ
  pub index_at : ℕ

-- the array that a header heads, with this offset size
abbrev pub array_from : List ℕ → ExtensibleArrayHeader → ℕ → Array
array_from file h o =
    record {
      file = file;
      sum = lookup3;
      parameters = h.parameters;
      offset_size = o;
      index_at = h.index_block_address;
    }
