-- The header of an index.
use Rattle.std.specs.Prelude.{ℕ, ◌+◌, not, List, eqb, get_or, take, drop}
use Rattle.refusal.specs.declared.Refusal.{Refusal}
use Rattle.refusal.specs.declared.Refusal.TheVariants.{HeaderVersion}
use Rattle.refusal.specs.Refusals.{refuse, ◌then◌, Checked}
use Rattle.fields.specs.Fields.{length_size_test, offset_size_test, in_file}
use Rattle.checksum.specs.Trailing.{trailing_test}
use Rattle.structures.specs.Structures.{signature_test}
use Rattle.structures.specs.declared.Kind.TheVariants.{Signed}

-- its signature's refusal, 22 header version (version)
unfoldable pub form_test : Refusal → ℕ → List ℕ → ℕ → Checked
form_test wrong signature f pos =
    signature_test (Signed wrong signature) f pos
    then refuse (HeaderVersion (get_or f (pos + 4) 0)) (not (eqb (get_or f (pos + 4) 0) 0))

-- 2 length size, 1 offset size
unfoldable pub sizes_test : ℕ → ℕ → Checked
sizes_test o l = length_size_test l then offset_size_test o

-- A header of len bytes at pos: 20, its signature's refusal, 22, 2, 1, 26.
unfoldable pub signed_header_test : Refusal → ℕ → (List ℕ → ℕ) → List ℕ → ℕ → ℕ → ℕ → ℕ → Checked
signed_header_test wrong signature sum f pos len o l =
    in_file f pos len then form_test wrong signature f pos then sizes_test o l
    then trailing_test sum (take len (drop pos f))
