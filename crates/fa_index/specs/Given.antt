-- What the code's values stand for: what a fixed array is walked by.
use Rattle.std.specs.Prelude.{ℕ, ◌<◌, ◌≡◌, Ok}
use Rattle.elements.specs.declared.ElementReader.{ElementReader}
use Rattle.fa_header.specs.declared.FixedArrayHeader.{FixedArrayHeader}
use Rattle.fa_geometry.specs.declared.FixedArray.{FixedArray as ArrayValue}
use Rattle.fa_geometry.specs.Layout.{fixed_form}
use Rattle.fa_blocks.specs.FixedArray.{FixedArray}
use Rattle.fa_blocks.specs.Blocks.{fixed_path_test}
use Rattle.fa_index.specs.declared.FixedIndex.{FixedIndex}

-- the index that an array is, as a header with this offset size heads it
abbrev pub indexed : FixedArrayHeader → ℕ → FixedIndex
indexed h o = record { array = record { header = h; offset_size = o } }

-- A reader of all of its entries.
pub record ReadsAll (a : ArrayValue) (r : ElementReader) : Type 0 where
  pub formed : fixed_form a.header a.offset_size ≡ r.form
  pub entries : r.count ≡ a.header.num_elements

-- What leads to the place of slot s, one of the array's entries, has passed its tests.
pub record TestedTo (a : FixedArray) (s : ℕ) : Type 0 where
  pub entry : s < a.header.num_elements
  pub tests : fixed_path_test a s ≡ Ok tt
