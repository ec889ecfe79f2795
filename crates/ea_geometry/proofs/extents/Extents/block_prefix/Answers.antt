-- `ea_geometry::extents::Extents::block_prefix` meets its contract. Assumes nothing.
use mathlib.Core.Path.{refl}
use Rattle.ea_geometry.proofs.Counts.{bytes_up}
use Rattle.ea_geometry.specs.Extents.{block_prefix}
use Rattle.ea_geometry.proofs.extents.Extents.block_prefix.Goals as goal

pub returns : goal.returns
unfolding block_prefix
returns c = rw (c.div_ceil.ensures, bytes_up) refl
