-- `ea_blocks::enter::PageRowRow::test_pair` meets its contract. Assumes nothing.
use mathlib.Core.Path.{sym, ◌∙◌}
use native.Mathlib.Omega.{arith}
use Rattle.structures.proofs.Entering.{found}
use Rattle.ea_blocks.proofs.enter.PageRowRow.test_pair.Goals as goal

pub returns : goal.returns
returns c =
    (omega arith, λ e i. c.test_two_pages.ensures _ _ _ _ (found _ _ _ i).1 (found _ _ _ (sym (c.find.ensures e) ∙ c.in_ok-next.was)).1)
