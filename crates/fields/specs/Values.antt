-- What reading a field answers: what it holds, or a refusal.
use Rattle.std.specs.Prelude.{ℕ, cond, List, ltb, leb, Option, None, Some, Ok}
use Rattle.refusal.specs.declared.Refusal.{Refusal}
use Rattle.refusal.specs.declared.Refusal.TheVariants.{OffsetSize, LengthSize, SizeField}
use Rattle.refusal.specs.Refusals.{Outcome, Checked, refuse, ◌then◌, largest64}
use Rattle.refusal.specs.Outcome.{◌yields◌}
use Rattle.fields.specs.LittleEndian.{le_at}
use Rattle.fields.specs.Fields.{width_test, in_file, address_at, undefined_at, size_test}

-- An offset or length is read where its width is right and it lies in the file.
unfoldable pub field_test : Refusal → List ℕ → ℕ → ℕ → Checked
field_test wrong s pos w = width_test wrong w then in_file s pos w

-- A size field has a width of its own, 0 to 8 bytes; over 8 is 29.
unfoldable pub size_field_test : List ℕ → ℕ → ℕ → Checked
size_field_test s pos w = refuse SizeField (ltb 8 w) then in_file s pos w

-- an address, an address that may be undefined, a length, a size
unfoldable pub offset_field : List ℕ → ℕ → ℕ → Outcome ℕ
offset_field s pos o = field_test (OffsetSize o) s pos o yields Ok (address_at s pos o)

unfoldable pub optional_offset_field : List ℕ → ℕ → ℕ → Outcome (Option ℕ)
optional_offset_field s pos o =
    field_test (OffsetSize o) s pos o yields Ok (cond (undefined_at s pos o) None (Some (address_at s pos o)))

unfoldable pub length_field : List ℕ → ℕ → ℕ → Outcome ℕ
length_field s pos l = field_test (LengthSize l) s pos l yields Ok (le_at s pos l)

unfoldable pub size_field : List ℕ → ℕ → ℕ → Outcome ℕ
size_field s pos w = size_field_test s pos w yields Ok (le_at s pos w)

-- a number in 32 bits
unfoldable pub narrowed : ℕ → Outcome ℕ
narrowed n = size_test n yields Ok n

-- A sum or product: the number where 64 bits hold it, else none.
unfoldable pub exact : ℕ → Option ℕ
exact n = cond (leb n largest64) (Some n) None
