-- One structure of an index, and its test.
use Rattle.std.specs.Prelude.{ℕ, Bool, not, List, eqb, take, drop, Ok}
use Rattle.refusal.specs.Refusals.{refuse, ◌then◌, Checked}
use Rattle.fields.specs.LittleEndian.{le_at}
use Rattle.fields.specs.Fields.{in_file}
use Rattle.checksum.specs.Trailing.{trailing_test}
use Rattle.structures.specs.declared.Kind.{Kind}
use Rattle.structures.specs.declared.Kind.TheVariants.{Signed, Page}

-- A structure begins with its signature, four bytes, or is refused by a refusal of its own. A page has none.
unfoldable pub signature_test : Kind → List ℕ → ℕ → Checked
signature_test (Signed wrong signature) f pos = refuse wrong (not (eqb (le_at f pos 4) signature))
signature_test Page f pos = Ok tt

-- Each block 20, signature, 26, each page 20, 26: the structure of len bytes at pos.
unfoldable pub structure_test : (List ℕ → ℕ) → Kind → List ℕ → ℕ → ℕ → Checked
structure_test sum kind f pos len =
    in_file f pos len then signature_test kind f pos
    then trailing_test sum (take len (drop pos f))

-- The pages of a data block: how many elements each has, which are set, each one's test, and where its elements begin.
pub record Pages : Type 0 where
  pub size : ℕ
  pub set : ℕ → Bool
  pub test : ℕ → Checked
  pub position : ℕ → ℕ
