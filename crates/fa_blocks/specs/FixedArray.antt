-- A fixed array in a file.
use Rattle.std.specs.Prelude.{ℕ, Bool, List}
use Rattle.checksum.specs.Lookup3.{lookup3}
use Rattle.fields.specs.Fields.{undefined}
use Rattle.fa_header.specs.declared.FixedArrayHeader.{FixedArrayHeader}

-- The file, the checksum, the array's header and the size of an address. The checksum is lookup3 in every contract;
-- another stands in its place only where a small file is computed by hand.
pub record FixedArray : Type 0 where
  pub file : List ℕ
  pub sum : List ℕ → ℕ
  pub header : FixedArrayHeader
  pub offset_size : ℕ

-- the array that a header heads, with this offset size
abbrev pub fixed_from : List ℕ → FixedArrayHeader → ℕ → FixedArray
fixed_from file h o = record { file = file; sum = lookup3; header = h; offset_size = o }

-- where its data block begins
abbrev pub fixed_block_at : FixedArray → ℕ
fixed_block_at a = a.header.data_block_address

-- Where the data block's address is undefined nothing was ever stored.
unfoldable pub never_stored : FixedArray → Bool
never_stored a = undefined a.offset_size (fixed_block_at a)
