-- `ea_index::in_block::SlotInBlock::run` meets its contract. Assumes nothing.
use mathlib.Core.Path.{◌≡◌, sym, ap, subst, ◌∙◌}
use native.Mathlib.Omega.{arith}
use Rattle.std.specs.Prelude.{Ok, Some}
use Rattle.ea_geometry.proofs.Counts.{supers_few}
use Rattle.ea_geometry.proofs.Places.{in_super_block_lem}
use Rattle.ea_blocks.specs.Values.{array_in, pointer_of}
use Rattle.ea_blocks.specs.Structures.{block_at, block_undefined}
use Rattle.ea_blocks.specs.Entered.{EnteredSuper}
use Rattle.ea_blocks.proofs.PointerValues.{pointer_undefined, pointer_at_lem}
use Rattle.ea_blocks.proofs.Entering.{entered_at}
use Rattle.ea_index.proofs.InBlocks.{served}
use Rattle.ea_index.proofs.SlotRuns.{super_gap, block_gap, block_entered}
use Rattle.ea_index.proofs.in_block.SlotInBlock.run.Goals.{After-block_pointer, In-Some}
use Rattle.ea_index.proofs.in_block.SlotInBlock.run.Goals as goal

pub overflow_add-self : goal.overflow_add-self
overflow_add-self c = omega (arith, supers_few _ (served c.args.self), c.args.self.within.super)

pub overflow_sub-result : goal.overflow_sub-result
overflow_sub-result c =
    let x = in_super_block_lem _ (served c.args.self) _ _ _ _ c.args.self.within in
    rw c.first_slot.ensures (omega arith)

pub returns-in_default : goal.returns-in_default
returns-in_default c =
    rw c.first_slot.ensures (super_gap c.args.self (subst (EnteredSuper _ _) (ap Ok c.in_default.is) c.find_super.ensures))

-- what the pointers to the super block and to the data block say
super : (c : In-Some) → let s = c.args.self in EnteredSuper (array_in s.array.array) s.u (Ok (Some c.in-Some.super_at))
super c = subst (EnteredSuper _ _) (ap Ok c.in-Some.is) c.find_super.ensures

block : (c : After-block_pointer)
    → let s = c.args.self in
    let a = array_in s.array.array in
    c.block_pointer.result ≡ pointer_of (block_undefined a s.u s.k) (block_at a s.u s.k)
block c =
    let r = c.block_row.ensures in
    (rw (r.0, r.1, r.2) at c.block_pointer.ensures) (entered_at _ _ _ (super (goal.at.After-block_pointer c).In-Some))

pub block_row-requires : goal.block_row-requires
block_row-requires c = super (goal.at.block_row-requires c).In-Some

pub returns-in_default-block_pointer : goal.returns-in_default-block_pointer
returns-in_default-block_pointer c =
    let at = goal.at.returns-in_default-block_pointer c in
    rw c.block_elements.ensures
    (block_gap c.args.self c.requires _ (super at.In-Some) (pointer_undefined _ _ (sym c.in_default-block_pointer.is ∙ block at.After-block_pointer)))

pub run_in_block-requires : goal.run_in_block-requires
run_in_block-requires c =
    let at = goal.at.run_in_block-requires c in
    let q = pointer_at_lem _ _ _ (sym c.in-Some-block_pointer.is ∙ block at.After-block_pointer) in
    (c.requires, block_entered c.args.self c.requires _ (super at.In-Some) _ q.0 q.1)
