-- `ea_blocks::BoundedArray::test_two_blocks` meets its contract. Assumes nothing.
use Rattle.ea_blocks.specs.Structures.{kind_of, start_of, extent_of, test_of}
use Rattle.ea_blocks.proofs.BoundedArray.test_two_blocks.Goals as goal

pub returns : goal.returns
unfolding test_of kind_of start_of extent_of
returns c = λ n m e i. (
  rw (← e, c.requires.1, c.test_two_structures.ensures.0, c.data_extent.ensures),
  rw (← i, c.requires.1, c.test_two_structures.ensures.1, c.data_extent.ensures),
)
