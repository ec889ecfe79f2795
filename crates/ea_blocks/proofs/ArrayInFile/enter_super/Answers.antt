-- `ea_blocks::ArrayInFile::enter_super` meets its contract. Assumes nothing.
use mathlib.Core.Path.{◌≡◌, sym, subst, ◌∙◌}
use mathlib.Core.Bool.{false}
use native.Mathlib.Omega.{arith}
use Rattle.std.proofs.Common.{rules, Err}
use Rattle.ea_blocks.specs.Values.{array_in}
use Rattle.ea_blocks.specs.Structures.{is_direct}
use Rattle.ea_blocks.specs.Entered.{EnteredSuper}
use Rattle.ea_blocks.proofs.StructureTests.{is_direct_lem, not_direct}
use Rattle.ea_blocks.proofs.PointerValues.{pointer_undefined, pointer_at_lem}
use Rattle.ea_blocks.proofs.ArrayInFile.enter_super.Goals.{Else-u-direct_super_blocks}
use Rattle.ea_blocks.proofs.ArrayInFile.enter_super.Goals as goal

pub returns-then-u-direct_super_blocks : goal.returns-then-u-direct_super_blocks
returns-then-u-direct_super_blocks c =
    let d = c.direct_super_blocks.ensures in
    is_direct_lem _ _ (omega arith)

-- the index block doesn't name the data blocks
beyond : (c : Else-u-direct_super_blocks)
    → let a = c.args in
    is_direct (array_in a.self.array) a.u ≡ false
beyond c =
    let d = c.direct_super_blocks.ensures in
    not_direct _ _ (omega arith)

pub returns-in_default : goal.returns-in_default
returns-in_default c =
    (beyond (goal.at.returns-in_default c).Else-u-direct_super_blocks, pointer_undefined _ _ (sym c.in_default.is ∙ c.super_pointer.ensures))

pub returns-in_err-test_super_block : goal.returns-in_err-test_super_block
returns-in_err-test_super_block c =
    let q = pointer_at_lem _ _ _ (sym c.in-Some.is ∙ c.super_pointer.ensures) in
    let e : c.from_residual.result ≡ Err c.in_err-test_super_block.field-0.0 = search rules in
    subst (EnteredSuper _ _) (sym e)
    (beyond (goal.at.returns-in_err-test_super_block c).Else-u-direct_super_blocks, q.0, sym (c.test_super_block.ensures q.1) ∙ c.in_err-test_super_block.was)

pub returns : goal.returns
returns c =
    let q = pointer_at_lem _ _ _ (sym c.in-Some.is ∙ c.super_pointer.ensures) in
    (beyond (goal.at.returns c).Else-u-direct_super_blocks, q.0, sym (c.test_super_block.ensures q.1) ∙ c.in_ok-test_super_block.was, q.1)
