-- `ea_index::in_block::SlotInBlock::find_super` meets its contract. Assumes nothing.
use mathlib.Core.Path.{◌≡◌, sym, ◌∙◌}
use mathlib.Core.Bool.{false}
use native.Mathlib.Omega.{arith}
use Rattle.ea_blocks.specs.Values.{array_in}
use Rattle.ea_blocks.specs.Structures.{is_direct}
use Rattle.ea_blocks.proofs.StructureTests.{is_direct_lem, not_direct}
use Rattle.ea_blocks.proofs.PointerValues.{pointer_undefined, pointer_at_lem}
use Rattle.ea_index.proofs.SlotRuns.{super_entered}
use Rattle.ea_index.proofs.in_block.SlotInBlock.find_super.Goals as goal
use Rattle.ea_index.proofs.in_block.SlotInBlock.find_super.Goals.{Else-self-direct_super_blocks}

pub returns-then-self-direct_super_blocks : goal.returns-then-self-direct_super_blocks
returns-then-self-direct_super_blocks c = is_direct_lem _ _ (omega (arith, c.direct_super_blocks.ensures, c.if-self-direct_super_blocks.true))

-- the index block doesn't name the data blocks
behind : (c : Else-self-direct_super_blocks) → let s = c.args.self in is_direct (array_in s.array.array) s.u ≡ false
behind c = not_direct _ _ (omega (arith, c.direct_super_blocks.ensures, c.if-self-direct_super_blocks.false))

pub returns-in_err-super_pointer : goal.returns-in_err-super_pointer
returns-in_err-super_pointer c =
    rw c.from_residual.ensures
    (behind (goal.at.returns-in_err-super_pointer c).Else-self-direct_super_blocks, pointer_undefined _ _ (sym c.in_err-super_pointer.was ∙ c.super_pointer.ensures))

pub returns : goal.returns
returns c =
    let q = pointer_at_lem _ _ _ (sym c.in_ok-super_pointer.was ∙ c.super_pointer.ensures) in
    super_entered c.args.self c.requires _ (behind (goal.at.returns c).Else-self-direct_super_blocks) q.0 q.1
