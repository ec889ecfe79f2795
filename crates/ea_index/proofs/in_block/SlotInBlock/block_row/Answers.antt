-- `ea_index::in_block::SlotInBlock::block_row` meets its contract. Assumes nothing.
use Rattle.ea_blocks.proofs.Entering.{entered_direct, entered_super_room}
use Rattle.ea_index.proofs.in_block.SlotInBlock.block_row.Goals as goal

pub invariant_of-result : goal.invariant_of-result
invariant_of-result c = record {
  below = c.args.self.within.super;
  direct = entered_direct _ _ _ c.requires;
  inside = entered_super_room _ _ _ c.requires;
}
