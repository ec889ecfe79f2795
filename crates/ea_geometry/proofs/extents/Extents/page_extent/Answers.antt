-- `ea_geometry::extents::Extents::page_extent` meets its contract. Assumes nothing.
use native.Mathlib.Omega.{arith}
use Rattle.ea_geometry.specs.Sizes.{page_elements}
use Rattle.ea_geometry.specs.Extents.{page_extent}
use Rattle.ea_geometry.proofs.Counts.{page_elements_few}
use Rattle.ea_geometry.proofs.Positions.{element_at_le}
use Rattle.ea_geometry.proofs.extents.Extents.page_extent.Goals as goal

pub element_at-requires : goal.element_at-requires
element_at-requires c = (omega arith, omega (arith, c.page_elements.ensures, page_elements_few c.args.self.sizes.parameters c.args.self.sizes.served))

pub overflow_add-result : goal.overflow_add-result
overflow_add-result c =
    let g = c.args.self in
    rw (c.element_at.ensures, c.page_elements.ensures)
    (omega (arith, element_at_le g.sizes.parameters g.offset_size c.args.self.legal (omega arith) 0 (page_elements g.sizes.parameters), page_elements_few g.sizes.parameters c.args.self.sizes.served))

pub returns : goal.returns
unfolding page_extent
returns c = rw (c.element_at.ensures, c.page_elements.ensures)
