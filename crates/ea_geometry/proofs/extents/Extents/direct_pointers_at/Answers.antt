-- `ea_geometry::extents::Extents::direct_pointers_at` meets its contract. Assumes nothing.
use Rattle.ea_geometry.specs.Extents.{direct_pointers_at}
use Rattle.ea_geometry.proofs.extents.Extents.direct_pointers_at.Goals as goal

pub returns : goal.returns
unfolding direct_pointers_at
returns c = c.inline_element_at.ensures
