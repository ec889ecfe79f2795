-- The structures of an array: where each lies, and its test.
use Rattle.std.specs.Prelude.{ℕ, ◌+◌, Bool, cond, ltb}
use Rattle.refusal.specs.declared.Refusal.TheVariants.{IndexBlockSignature, DataBlockSignature, SuperBlockSignature}
use Rattle.refusal.specs.Refusals.{◌then◌, Checked}
use Rattle.fields.specs.Fields.{address_at, undefined_at}
use Rattle.structures.specs.declared.Kind.{Kind}
use Rattle.structures.specs.declared.Kind.TheVariants.{Signed, Page}
use Rattle.structures.specs.Structures.{structure_test, Pages}
use Rattle.structures.specs.PageBits.{page_bit}
use Rattle.ea_header.specs.Served.{served_test}
use Rattle.ea_geometry.specs.Sizes.{direct_super_blocks, page_elements, bit_number}
use Rattle.ea_geometry.specs.Extents.{index_extent, super_extent, data_extent, paged_head_extent, page_extent, page_at}
use Rattle.ea_geometry.specs.Extents.{block_prefix, direct_pointer_at, super_pointer_at, block_pointer_at}
use Rattle.ea_geometry.specs.Place.{in_pages}
use Rattle.ea_blocks.specs.Array.{Array}

-- Super block u's data blocks are named in the index block, ..
unfoldable pub is_direct : Array → ℕ → Bool
is_direct a u = ltb u (direct_super_blocks a.parameters)

-- .. or super block u itself is.
unfoldable pub super_named_at : Array → ℕ → ℕ
super_named_at a u = a.index_at + super_pointer_at a.parameters a.offset_size u

unfoldable pub super_block_at : Array → ℕ → ℕ
super_block_at a u = address_at a.file (super_named_at a u) a.offset_size

-- Data block k of super block u is named in the index block or in its super block.
unfoldable pub block_named_at : Array → ℕ → ℕ → ℕ
block_named_at a u k =
    cond (is_direct a u) (a.index_at + direct_pointer_at a.parameters a.offset_size u k)
    (super_block_at a u + block_pointer_at a.parameters a.offset_size u k)

unfoldable pub block_at : Array → ℕ → ℕ → ℕ
block_at a u k = address_at a.file (block_named_at a u k) a.offset_size

-- page p of it
unfoldable pub data_page_at : Array → ℕ → ℕ → ℕ → ℕ
data_page_at a u k p = block_at a u k + page_at a.parameters a.offset_size p

-- whether their pointers are undefined
unfoldable pub super_undefined : Array → ℕ → Bool
super_undefined a u = undefined_at a.file (super_named_at a u) a.offset_size

unfoldable pub block_undefined : Array → ℕ → ℕ → Bool
block_undefined a u k = undefined_at a.file (block_named_at a u k) a.offset_size

-- whether page bit b of super block u is set
unfoldable pub bit_set : Array → ℕ → ℕ → Bool
bit_set a u b = page_bit a.file (super_block_at a u + block_prefix a.parameters a.offset_size) b

unfoldable pub page_set : Array → ℕ → ℕ → ℕ → Bool
page_set a u k p = bit_set a u (bit_number a.parameters u k p)

-- A structure by its place in the geometry: the index block, super block u, data block k of super block u, page p of
-- that.
pub data Structure : Type 0 where
  index_block : Structure
  super_block : ℕ → Structure
  data_block : ℕ → ℕ → Structure
  data_page : ℕ → ℕ → ℕ → Structure

-- 23, 24, 25 index, data, super block signature: "EAIB", "EADB", "EASB". A page has none.
unfoldable pub kind_of : Structure → Kind
kind_of index_block = Signed IndexBlockSignature 0x4249_4145
kind_of (super_block u) = Signed SuperBlockSignature 0x4253_4145
kind_of (data_block u k) = Signed DataBlockSignature 0x4244_4145
kind_of (data_page u k p) = Page

-- where it begins
unfoldable pub start_of : Array → Structure → ℕ
start_of a index_block = a.index_at
start_of a (super_block u) = super_block_at a u
start_of a (data_block u k) = block_at a u k
start_of a (data_page u k p) = data_page_at a u k p

-- How many bytes its test covers: of a paged data block its head, for each page has a test of its own.
unfoldable pub extent_of : Array → Structure → ℕ
extent_of a index_block = index_extent a.parameters a.offset_size
extent_of a (super_block u) = super_extent a.parameters a.offset_size u
extent_of a (data_block u k) =
    cond (in_pages a.parameters u) (paged_head_extent a.parameters a.offset_size)
    (data_extent a.parameters a.offset_size u)
extent_of a (data_page u k p) = page_extent a.parameters a.offset_size

unfoldable pub test_of : Array → Structure → Checked
test_of a x = structure_test a.sum (kind_of x) a.file (start_of a x) (extent_of a x)

-- The way into an array: 27, then the index block's 20, 23, 26.
unfoldable pub array_test : Array → Checked
array_test a = served_test a.parameters then test_of a index_block

-- the pages of data block k of super block u
abbrev pub pages_of : Array → ℕ → ℕ → Pages
pages_of a u k =
    record {
      size = page_elements a.parameters;
      set = page_set a u k;
      position = data_page_at a u k;
      test = λ (p : ℕ). test_of a (data_page u k p);
    }
