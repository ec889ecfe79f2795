-- `ea_blocks::tests::test_index_block` meets its contract. Assumes nothing.
use native.Mathlib.Omega.{arith}
use Rattle.ea_blocks.specs.Structures.{kind_of, start_of, extent_of, test_of}
use Rattle.structures.proofs.StructureTests.{figure_structure}
use Rattle.ea_blocks.proofs.tests.test_index_block.Goals as goal

pub returns : goal.returns
unfolding test_of kind_of start_of extent_of
returns c = rw (c.test_structure.ensures, c.index_extent.ensures) (figure_structure _ _ _ _ _ (omega arith))
