-- `questions::parse_line` meets its contract: the words that are left come to what the line comes to. Assumes nothing.
use Rattle.std.proofs.Common.{◌≡◌, length}
use Rattle.questions.proofs.Questions.{Parsing}
use Rattle.questions.proofs.parse_line.Given as goal

abbrev pub invariant-loop-i : goal.invariant-loop-i
invariant-loop-i l = (l.count ≡ length l.yielded) × Parsing l.initial.numbers l.line l.numbers l.question l.count
