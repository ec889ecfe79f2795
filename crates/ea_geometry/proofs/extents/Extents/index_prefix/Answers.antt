-- `ea_geometry::extents::Extents::index_prefix` meets its contract. Assumes nothing.
use mathlib.Core.Path.{refl}
use Rattle.ea_geometry.specs.Extents.{index_prefix}
use Rattle.ea_geometry.proofs.extents.Extents.index_prefix.Goals as goal

pub returns : goal.returns
unfolding index_prefix
returns c = refl
