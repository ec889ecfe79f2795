-- `list_text::store_digits` meets its contract: the digits of `rest` end before `first`, and the others stand from there
-- on. Assumes nothing.
use Rattle.list_text.proofs.Digits.{Storing}
use Rattle.list_text.proofs.store_digits.Given as goal

abbrev pub invariant-loop-first : goal.invariant-loop-first
invariant-loop-first l = Storing l.n l.digits l.first l.rest
