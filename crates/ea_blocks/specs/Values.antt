-- What the code's values stand for.
use Rattle.std.specs.Prelude.{ℕ, ◌+◌, ◌≤◌, ◌≡◌, Bool, true, cond, List, length, None, Option, Some}
use Rattle.std.specs.Option.{ForSome}
use Rattle.fields.specs.Fields.{is_width}
use Rattle.checksum.specs.Lookup3.{lookup3}
use Rattle.ea_header.specs.declared.ExtensibleArrayHeader.{ExtensibleArrayHeader}
use Rattle.ea_header.specs.Values.{Served}
use Rattle.ea_geometry.specs.Extents.{index_extent}
use Rattle.ea_blocks.specs.Structures.{super_block_at}
use Rattle.ea_blocks.specs.declared.BoundedArray.{BoundedArray}
use Rattle.ea_blocks.specs.declared.ExtensibleArray.{ExtensibleArray}
use Rattle.ea_blocks.specs.Array.{Array}

-- the array that the code's values stand for
abbrev pub array_of : List ℕ → ExtensibleArray → Array
array_of file a = record {
  file = file;
  sum = lookup3;
  parameters = a.geometry.parameters;
  offset_size = a.geometry.offset_size;
  index_at = a.index_at;
}

-- those of a header with this offset size
abbrev pub headed : ExtensibleArrayHeader → ℕ → ExtensibleArray
headed h o = record {
  geometry = record { parameters = h.parameters; offset_size = o };
  index_at = h.index_block_address;
}

-- .. and those of an array whose extents fit 64 bits
abbrev pub array_in : BoundedArray → Array
array_in a = record {
  file = a.file.now;
  sum = lookup3;
  parameters = a.extents.sizes.parameters;
  offset_size = a.extents.offset_size;
  index_at = a.index_at;
}

-- The parameters are served, the offset size is a width, and the index block lies in the file.
pub record IndexInFile (file : List ℕ) (a : ExtensibleArray) : Type 0 where
  pub served : Served a.geometry.parameters
  pub wide : is_width a.geometry.offset_size ≡ true
  pub inside : a.index_at + index_extent a.geometry.parameters a.geometry.offset_size ≤ length file

-- The pointers to the data blocks of super block u stand where the file says: in the super block, which lies where its
-- pointer says; or in the index block.
abbrev pub NamedAt : Array → ℕ → Option ℕ → Type 0
NamedAt a u super_at = ForSome super_at (λ (at : ℕ). at ≡ super_block_at a u)

-- What a pointer says: nothing where it is undefined, else the position of a structure.
unfoldable pub pointer_of : Bool → ℕ → Option ℕ
pointer_of undefined address = cond undefined None (Some address)
