-- `ea_index::in_block::SlotInBlock::path` meets its contract. Assumes nothing.
use mathlib.Core.Path.{ap, subst, ◌∙◌}
use Rattle.std.proofs.Common.{rules}
use Rattle.std.specs.Prelude.{Ok, Some}
use Rattle.ea_blocks.specs.Values.{array_in}
use Rattle.ea_blocks.specs.Entered.{EnteredSuper, EnteredBlock}
use Rattle.ea_blocks.proofs.Entering.{entered_at}
use Rattle.ea_index.proofs.PathEnds.{absent_super_ends, refused_super_ends, absent_block_ends, refused_block_ends}
use Rattle.ea_index.proofs.in_block.SlotInBlock.path.Goals.{After-enter_block, In-Some}
use Rattle.ea_index.proofs.in_block.SlotInBlock.path.Goals as goal

pub returns-in_err-super_at : goal.returns-in_err-super_at
returns-in_err-super_at c =
    let h = refused_super_ends c.args.self _ (subst (EnteredSuper _ _) c.in_err-super_at.was c.enter_super.ensures) in
    search rules

pub returns-in_default : goal.returns-in_default
returns-in_default c =
    absent_super_ends c.args.self (subst (EnteredSuper _ _) (c.in_ok-super_at.was ∙ ap Ok c.in_default.is) c.enter_super.ensures)

-- what stepping into the super block and into the data block has found
super : (c : In-Some)
    → let s = c.args.self in
    EnteredSuper (array_in s.array.array) s.u (Ok (Some c.in-Some.super_at))
super c = subst (EnteredSuper _ _) (c.in_ok-super_at.was ∙ ap Ok c.in-Some.is) c.enter_super.ensures

block : (c : After-enter_block)
    → let s = c.args.self in
    EnteredBlock (array_in s.array.array) s.u s.k c.enter_block.result
block c =
    let r = c.block_row.ensures in
    (rw (r.0, r.1, r.2) at c.enter_block.ensures) (entered_at _ _ _ (super (goal.at.After-enter_block c).In-Some))

pub returns-in_err-at : goal.returns-in_err-at
returns-in_err-at c =
    let at = goal.at.returns-in_err-at c in
    let h = refused_block_ends c.args.self _ (super at.In-Some) _ (subst (EnteredBlock _ _ _) c.in_err-at.was (block at.After-enter_block)) in
    search rules

pub returns-in_default-2 : goal.returns-in_default-2
returns-in_default-2 c =
    let at = goal.at.returns-in_default-2 c in
    absent_block_ends c.args.self _ (super at.In-Some) (subst (EnteredBlock _ _ _) (c.in_ok-at.was ∙ ap Ok c.in_default-2.is) (block at.After-enter_block))

pub path_in_block-requires : goal.path_in_block-requires
path_in_block-requires c =
    let at = goal.at.path_in_block-requires c in
    record {
      super = super at.In-Some;
      block = subst (EnteredBlock _ _ _) (c.in_ok-at.was ∙ ap Ok c.in-Some-2.is) (block at.After-enter_block);
    }
