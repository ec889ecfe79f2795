-- What the code's values stand for.
use Rattle.std.specs.Prelude.{ℕ, List}
use Rattle.ea_blocks.specs.Array.{Array}
use Rattle.ea_blocks.specs.Values.{array_of}
use Rattle.ea_blocks.specs.declared.BoundedArray.{BoundedArray}

-- a bounded array, with this file in place of its own
abbrev pub array_with : List ℕ → BoundedArray → Array
array_with file a =
    array_of file
    (record {
      geometry = record { parameters = a.extents.sizes.parameters; offset_size = a.extents.offset_size };
      index_at = a.index_at;
    })
