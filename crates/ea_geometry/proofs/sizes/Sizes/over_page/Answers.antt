-- `ea_geometry::sizes::Sizes::over_page` meets its contract. Assumes nothing.
use Rattle.ea_geometry.specs.Sizes.{over_page}
use Rattle.ea_geometry.proofs.sizes.Sizes.over_page.Goals as goal

pub returns : goal.returns
unfolding over_page
returns c = rw (c.page_elements.ensures, c.block_elements.ensures)
