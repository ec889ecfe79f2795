-- `ea_index::in_block::SlotInBlock::page_row` meets its contract. Assumes nothing.
use native.Mathlib.Omega.{arith}
use Rattle.ea_blocks.proofs.Entering.{entered_head_room, entered_super_room}
use Rattle.ea_blocks.proofs.Entering.{paged_named}
use Rattle.ea_index.proofs.in_block.SlotInBlock.page_row.Goals as goal

pub unwrap-requires : goal.unwrap-requires
unwrap-requires c = paged_named _ _ _ c.requires.0.super c.requires.1

pub invariant_of-result : goal.invariant_of-result
invariant_of-result c = record {
  super_below = c.args.self.within.super;
  below = c.args.self.within.block;
  paged = c.requires.1;
  inside = (entered_super_room _ _ _ c.requires.0.super _ c.unwrap.ensures).1;
  begins = omega (arith, entered_head_room _ _ _ _ c.requires.0.block c.requires.1);
}
