-- `ea_blocks::BoundedArray::test_page` meets its contract. Assumes nothing.
use Rattle.ea_blocks.specs.Structures.{kind_of, start_of, extent_of, test_of}
use Rattle.ea_blocks.proofs.BoundedArray.test_page.Goals as goal

pub returns : goal.returns
unfolding test_of kind_of start_of extent_of
returns c u n p e = rw (← e, c.test_structure.ensures, c.page_extent.ensures)
