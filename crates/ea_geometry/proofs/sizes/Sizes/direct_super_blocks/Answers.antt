-- `ea_geometry::sizes::Sizes::direct_super_blocks` meets its contract. Assumes nothing.
use Rattle.std.proofs.Common.{rules}
use Rattle.ea_geometry.specs.Sizes.{direct_super_blocks}
use Rattle.ea_geometry.proofs.sizes.Sizes.direct_super_blocks.Goals as goal

pub returns : goal.returns
unfolding direct_super_blocks
returns c = search rules
