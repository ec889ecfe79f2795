-- What every call from C is given, for any kind of index.
use Rattle.std.specs.Prelude.{ℕ, not, cond, List, eqb}
use Rattle.chunk_grid.specs.declared.GridOrder.{GridOrder}
use Rattle.chunk_grid.specs.declared.GridOrder.TheVariants.{RowMajor, UnlimitedFirst}
use Rattle.chunk_grid.specs.Grid.{Grid, given}
use Rattle.shapes.specs.Shapes.{shape_of}

-- The file, the sizes of its offsets and lengths, the address of the index's header, the bytes of one element of the
-- dataset, and the grid of the dataset's shapes.
pub record Call : Type 0 where
  pub file : List ℕ
  pub offset_size : ℕ
  pub length_size : ℕ
  pub address : ℕ
  pub element_bytes : ℕ
  pub grid : Grid

-- Order 0 is R, any other U; ..
unfoldable pub order_of : ℕ → GridOrder
order_of n = cond (eqb n 0) RowMajor UnlimitedFirst

-- .. a maximum is present unless its flag is 0; a shape has 8 bytes a dimension.
unfoldable pub grid_given : ℕ → ℕ → List ℕ → List ℕ → ℕ → List ℕ → Grid
grid_given order rank chunk present flag maximum =
    given rank (shape_of rank chunk) (shape_of rank present) (not (eqb flag 0)) (shape_of rank maximum) (order_of order)

-- the call of these arguments
abbrev pub call_of : List ℕ → ℕ → ℕ → ℕ → ℕ → Grid → Call
call_of file o l address n grid =
    record { file = file; offset_size = o; length_size = l; address = address; element_bytes = n; grid = grid }
