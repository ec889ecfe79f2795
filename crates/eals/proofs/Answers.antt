-- The program's answer, from what its steps give. Assumes nothing.
use mathlib.Core.Path.{◌≡◌, refl}
use mathlib.Core.List.{List}
use Prim.Native.Nat.{ℕ, ◌≤◌}
use lib.ListN.{length}
use lib.Seq.{length-sets}
use Rattle.std.specs.Prelude.{None, Some}
use Rattle.io.specs.Counts.{IsPrefixLen}
use Rattle.io.proofs.Counting.{prefix_len_of_le}
use Rattle.refusal.specs.Refusals.{Outcome}
use Rattle.refusal.specs.Values.{counted_of}
use Rattle.records.specs.Records.{list_content}
use Rattle.questions.specs.Line.{file_of, question_of, numbers_stored}
use Rattle.list_text.specs.Printed.{Put}
use Rattle.eals.specs.Program.{listing_of, counted_text, unreadable_text, parsed_text, program_text}
use Rattle.questions.specs.declared.Question.{Question}

module _ (input numbers list : List ℕ) where
  -- a question is answered
  pub asked : (q : Question) → question_of input ≡ Some q → (stored file content : List ℕ) (counted : Outcome ℕ)
      → stored ≡ numbers_stored input numbers → file ≡ file_of input
      → counted ≡ counted_of (listing_of q stored file (length list)) → content ≡ list_content (listing_of q stored file (length list)) list
      → counted_text q.rank counted content ≡ program_text input numbers list
  unfolding program_text parsed_text
  asked q r stored file content counted s f k l = rw (r, ← s, ← f, ← l, ← k) refl

  -- the line is unreadable
  pub unread : question_of input ≡ None → unreadable_text ≡ program_text input numbers list
  unfolding program_text parsed_text
  unread r = rw r refl

-- a text that is put lies in its buffer
pub put_within : {out text out' : List ℕ} {end : ℕ} → Put out 0 text out' end → end ≤ length out → IsPrefixLen end out'
put_within {out} {text} p h = prefix_len_of_le _ _ (rw (p.holds, length-sets out 0 text) h)
