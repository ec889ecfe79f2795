-- `ea_blocks::enter::BlockRowRow::test_pair` meets its contract. Assumes nothing.
use mathlib.Core.Path.{sym, ◌∙◌}
use native.Mathlib.Omega.{arith}
use Rattle.ea_blocks.proofs.PointerValues.{pointer_at_lem}
use Rattle.ea_blocks.proofs.enter.BlockRowRow.test_pair.Goals as goal

pub returns : goal.returns
returns c =
    (omega arith, λ e i. c.test_two_blocks.ensures _ _ (pointer_at_lem _ _ _ (sym i)).1 (pointer_at_lem _ _ _ (sym c.in_ok-next.was ∙ c.find.ensures e)).1)
