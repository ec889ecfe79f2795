-- `ea_geometry::sizes::Sizes::pages` meets its contract. Assumes nothing.
use Rattle.ea_geometry.specs.Sizes.{page_elements, pages}
use Rattle.ea_geometry.proofs.sizes.Sizes.pages.Goals as goal

pub returns : goal.returns
unfolding pages page_elements
returns c = rw c.block_elements.ensures
