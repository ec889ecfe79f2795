-- Fields of a file: addresses, lengths and sizes of a given width.
use Rattle.std.specs.Prelude.{ℕ, ◌+◌, ◌-◌, ◌*◌, ◌^◌, Bool, not, ◌&&◌, ◌||◌, List, eqb, ltb, length}
use Rattle.refusal.specs.declared.Refusal.{Refusal}
use Rattle.refusal.specs.declared.Refusal.TheVariants.{OffsetSize, LengthSize, PastEnd, Size}
use Rattle.refusal.specs.Refusals.{refuse, figure, Checked}
use Rattle.fields.specs.LittleEndian.{le_at}

-- Offset and length sizes are 2, 4 or 8 bytes ..
unfoldable pub is_width : ℕ → Bool
is_width w = eqb w 2 || eqb w 4 || eqb w 8

-- .. any other is refused: an offset size as 1, a length size as 2, each with the size.
unfoldable pub width_test : Refusal → ℕ → Checked
width_test wrong w = refuse wrong (not (is_width w))

abbrev pub offset_size_test : ℕ → Checked
offset_size_test o = width_test (OffsetSize o) o

abbrev pub length_size_test : ℕ → Checked
length_size_test l = width_test (LengthSize l) l

-- 20: past the end (expected end, file length).
unfoldable pub in_file : List ℕ → ℕ → ℕ → Checked
in_file s pos len = refuse (PastEnd (figure (pos + len)) (length s)) (ltb (length s) (pos + len))

-- An address with all bits set at its width is undefined: 0xFFFF at 2 bytes, but 65,535 stored in 4 bytes is defined.
-- Another width than 2, 4 or 8 has no undefined address.
unfoldable pub undefined : ℕ → ℕ → Bool
undefined o a = is_width o && eqb a (2 ^ (8 * o) - 1)

-- the address that is stored in the o bytes of s from pos on
unfoldable pub address_at : List ℕ → ℕ → ℕ → ℕ
address_at s pos o = le_at s pos o

-- whether that address is undefined
unfoldable pub undefined_at : List ℕ → ℕ → ℕ → Bool
undefined_at s pos o = undefined o (address_at s pos o)

-- A size over 2^32 − 1 is 30 with the size.
unfoldable pub size_test : ℕ → Checked
size_test n = refuse (Size (figure n)) (ltb (2 ^ 32 - 1) n)
