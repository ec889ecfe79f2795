-- The checksum in the last 4 bytes of a structure.
use Rattle.std.specs.Prelude.{ℕ, ◌-◌, not, List, length, take, ◌==◌, nat_lt}
use Rattle.refusal.specs.declared.Refusal.TheVariants.{Checksum, PastEnd}
use Rattle.refusal.specs.Refusals.{refuse, ◌then◌, Checked}
use Rattle.fields.specs.LittleEndian.{le_at}

-- The stored checksum is the last 4 bytes of a structure ..
abbrev pub stored_of : List ℕ → ℕ
stored_of block = le_at block (length block - 4) 4

-- .. and covers all bytes before it: none, where there are fewer than 4.
abbrev pub body_of : List ℕ → List ℕ
body_of block = take (length block - 4) block

-- Under 4 bytes it is 20 with 4 and the length; 26 where the stored checksum isn't the computed one, with both.
-- The sum is lookup3 wherever a file is read; another can stand in its place where an example is computed by hand.
unfoldable pub trailing_test : (List ℕ → ℕ) → List ℕ → Checked
trailing_test sum block =
    refuse (PastEnd 4 (length block)) (nat_lt (length block) 4)
    then refuse (Checksum (stored_of block) (sum (body_of block))) (not (stored_of block == sum (body_of block)))
