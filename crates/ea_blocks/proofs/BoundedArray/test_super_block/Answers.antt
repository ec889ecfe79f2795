-- `ea_blocks::BoundedArray::test_super_block` meets its contract. Assumes nothing.
use Rattle.ea_blocks.specs.Structures.{kind_of, start_of, extent_of, test_of}
use Rattle.ea_blocks.proofs.BoundedArray.test_super_block.Goals as goal

pub returns : goal.returns
unfolding test_of kind_of start_of extent_of
returns c e = rw (← e, c.test_structure.ensures, c.super_extent.ensures)
