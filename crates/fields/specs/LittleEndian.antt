-- Stored numbers are little-endian.
use Rattle.std.specs.Prelude.{List, [], ◌∷◌, ℕ, zero, suc, ◌+◌, ◌*◌, ◌/◌, ◌%◌, take, drop}

-- the number that bytes store: the first byte is the lowest
unfoldable pub le_value : List ℕ → ℕ
le_value [] = 0
le_value (b ∷ s) = b + 256 * le_value s

-- the number in the w bytes of s from pos on; a byte past the end of s counts as 0
unfoldable pub le_at : List ℕ → ℕ → ℕ → ℕ
le_at s pos w = le_value (take w (drop pos s))

-- the lowest w bytes of a number, the lowest first
unfoldable pub le_bytes : ℕ → ℕ → List ℕ
le_bytes zero n = []
le_bytes (suc w) n = n % 256 ∷ le_bytes w (n / 256)
