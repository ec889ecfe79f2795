-- `ea_geometry::extents::Extents::data_extent` meets its contract. Assumes nothing.
use native.Mathlib.Omega.{arith}
use Rattle.ea_geometry.specs.Extents.{block_element_at, data_extent, block_prefix}
use Rattle.ea_geometry.proofs.Counts.{elements_few}
use Rattle.ea_geometry.proofs.Positions.{block_prefix_few, element_at_le}
use Rattle.ea_geometry.proofs.extents.Extents.data_extent.Goals as goal

pub block_element_at-requires : goal.block_element_at-requires
block_element_at-requires c =
    (omega (arith, c.block_elements.ensures, elements_few c.args.self.sizes.parameters c.args.self.sizes.served c.args.u c.requires))

pub overflow_add-result : goal.overflow_add-result
unfolding block_element_at
overflow_add-result c =
    let h = c.args.self.sizes.parameters in
    let o = c.args.self.offset_size in
    omega (arith, c.block_element_at.ensures, element_at_le h o c.args.self.legal (omega arith) (block_prefix h o) c.block_elements.result, block_prefix_few h o c.args.self.legal c.args.self.sizes.served, c.block_elements.ensures, elements_few h c.args.self.sizes.served c.args.u c.requires)

pub returns : goal.returns
unfolding data_extent
returns c = rw (c.block_element_at.ensures, c.block_elements.ensures)
