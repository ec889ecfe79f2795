-- Shapes and corners as bytes.
use Rattle.std.specs.Prelude.{ℕ, zero, suc, ◌*◌, cond, List, [], ◌∷◌, eqb, length, drop}
use Rattle.fields.specs.LittleEndian.{le_at}

-- A shape or corner has 8 bytes a dimension; ..
unfoldable pub numbers_in : ℕ → List ℕ → List ℕ
numbers_in zero s = []
numbers_in (suc n) s = le_at s 0 8 ∷ numbers_in n (drop 8 s)

-- .. one of another length than 8 × rank has another rank: 0, or 1 where the rank is 0.
unfoldable pub other_rank : ℕ → List ℕ
other_rank zero = 0 ∷ []
other_rank (suc n) = []

unfoldable pub shape_of : ℕ → List ℕ → List ℕ
shape_of rank bytes = cond (eqb (length bytes) (8 * rank)) (numbers_in rank bytes) (other_rank rank)
