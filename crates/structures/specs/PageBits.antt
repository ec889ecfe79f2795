-- The bits that say which pages are set.
use Rattle.std.specs.Prelude.{ℕ, ◌+◌, ◌/◌, ◌%◌, ◌^◌, Bool, List, eqb, get_or}

-- the bytes that n bits take
unfoldable pub bit_bytes : ℕ → ℕ
bit_bytes n = (n + 7) / 8

-- Bit number b stands in byte b / 8, ..
unfoldable pub bit_byte : ℕ → ℕ
bit_byte b = b / 8

-- .. mask 0x80 shifted right by b mod 8.
unfoldable pub bit_mask : ℕ → ℕ
bit_mask b = 0x80 / 2 ^ (b % 8)

-- whether bit b is set in the page bits that begin at pos
unfoldable pub page_bit : List ℕ → ℕ → ℕ → Bool
page_bit s pos b = eqb (get_or s (pos + bit_byte b) 0 / bit_mask b % 2) 1
