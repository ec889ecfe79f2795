-- `questions::text::parse_number` meets its contract: what the digits left come to behind those read is the word's
-- number. Assumes nothing.
use mathlib.Core.Path.{◌≡◌}
use lib.ListN.{drop}
use Rattle.questions.specs.Text.{number_of}
use Rattle.questions.proofs.Numbers.{number_from}
use Rattle.questions.proofs.text.parse_number.Given as goal

abbrev pub invariant-loop-b : goal.invariant-loop-b
invariant-loop-b l = number_from l.largest l.value (drop l.b-index l.word) ≡ number_of l.largest l.word
