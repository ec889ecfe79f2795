-- `ea_geometry::extents::Extents::pointer_at` meets its contract. Assumes nothing.
use mathlib.Core.Path.{refl}
use Rattle.ea_geometry.specs.Extents.{pointer_at}
use Rattle.ea_geometry.proofs.extents.Extents.pointer_at.Goals as goal

pub returns : goal.returns
unfolding pointer_at
returns c = refl
