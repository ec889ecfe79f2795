-- `ea_blocks::BoundedArray::test_two_pages` meets its contract. Assumes nothing.
use Rattle.ea_blocks.specs.Structures.{kind_of, start_of, extent_of, test_of}
use Rattle.ea_blocks.proofs.BoundedArray.test_two_pages.Goals as goal

pub returns : goal.returns
unfolding test_of kind_of start_of extent_of
returns c = λ u n p m e i. (
  rw (← e, c.test_two_structures.ensures.0, c.page_extent.ensures),
  rw (← i, c.test_two_structures.ensures.1, c.page_extent.ensures),
)
