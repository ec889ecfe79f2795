-- `ea_geometry::extents::Extents::paged_extent` meets its contract. Assumes nothing.
use Rattle.ea_geometry.specs.Extents.{paged_extent}
use Rattle.ea_geometry.proofs.Counts.{pages_fit}
use Rattle.ea_geometry.proofs.extents.Extents.paged_extent.Goals as goal

pub page_at-requires : goal.page_at-requires
page_at-requires c =
    rw c.pages.ensures (pages_fit c.args.self.sizes.parameters c.args.self.sizes.served c.args.u c.requires)

pub returns : goal.returns
unfolding paged_extent
returns c = rw (c.page_at.ensures, c.pages.ensures)
