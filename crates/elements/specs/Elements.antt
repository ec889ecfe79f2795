-- One element of an index.
use Rattle.std.specs.Prelude.{ℕ, ◌+◌, ◌*◌, Bool, not, cond, ◌&&◌, List, [], ◌∷◌, ltb, None, Ok, Option, Some}
use Rattle.refusal.specs.declared.Refusal.TheVariants.{SizeField}
use Rattle.refusal.specs.Refusals.{refuse, ◌then◌, Checked, Outcome}
use Rattle.refusal.specs.Outcome.{◌yields◌}
use Rattle.fields.specs.LittleEndian.{le_at}
use Rattle.fields.specs.Fields.{address_at, undefined_at, size_test}
use Rattle.chunk_grid.specs.Grid.{Grid, offsets, offsets_test, below}
use Rattle.element_form.specs.declared.Form.{Form}
use Rattle.element_form.specs.Form.{filtered, size_bytes, element_size_test}
use Rattle.index.specs.declared.Entry.{Entry}
use Rattle.index.specs.Index.{Rec}

-- What the elements of an index are read by: the file, their form, the grid that numbers their chunks, the bytes of one
-- element of the dataset, and the published count.
pub record Elements : Type 0 where
  pub file : List ℕ
  pub form : Form
  pub grid : Grid
  pub element_bytes : ℕ
  pub count : ℕ

-- The chunk's bytes: the exact product of the chunk dimensions and the element size.
unfoldable pub product : List ℕ → ℕ
product [] = 1
product (x ∷ l) = x * product l

unfoldable pub chunk_bytes : Grid → ℕ → ℕ
chunk_bytes g n = product g.chunk * n

-- whether the address at pos is undefined
abbrev pub undefined_element : Elements → ℕ → Bool
undefined_element e pos = undefined_at e.file pos e.form.offset_size

-- Unfiltered: an element is an address, its size the chunk's bytes, its mask 0.
unfoldable pub size_at : Elements → ℕ → ℕ
size_at e pos =
    cond (filtered e.form) (le_at e.file (pos + e.form.offset_size) (size_bytes e.form))
    (chunk_bytes e.grid e.element_bytes)

unfoldable pub mask_at : Elements → ℕ → ℕ
mask_at e pos = cond (filtered e.form) (le_at e.file (pos + e.form.offset_size + size_bytes e.form) 4) 0

-- what the element at pos holds
unfoldable pub entry_at : Elements → ℕ → Entry
entry_at e pos =
    record { address = address_at e.file pos e.form.offset_size; size = size_at e pos; mask = mask_at e pos }

-- 29 size field over 8 bytes, before 30 size over 2^32 − 1 (value)
unfoldable pub entry_test : Elements → ℕ → Checked
entry_test e pos = refuse SizeField (filtered e.form && ltb 8 (size_bytes e.form)) then size_test (size_at e pos)

-- Element: 28, 1, undefined, 32, 33, dropped, 29, 30: the element of slot s at pos gives no chunk or its record,
-- whose corner is the slot's offsets. A slot whose offsets don't all lie below the present extents is dropped,
-- without refusal.
unfoldable pub element : Elements → ℕ → ℕ → Outcome (Option Rec)
element e pos s =
    element_size_test e.form
    yields cond (undefined_element e pos) (Ok None)
    (offsets_test e.grid s
    yields cond (not (below (offsets e.grid s) e.grid.present)) (Ok None)
    (entry_test e pos yields Ok (Some (record { entry = entry_at e pos; corner = offsets e.grid s }))))
