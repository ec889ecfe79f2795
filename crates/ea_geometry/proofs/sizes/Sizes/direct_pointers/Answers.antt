-- `ea_geometry::sizes::Sizes::direct_pointers` meets its contract. Assumes nothing.
use mathlib.Core.Path.{ap, ◌∙◌}
use Rattle.ea_geometry.specs.Sizes.{blocks_before, direct_pointers}
use Rattle.ea_geometry.proofs.Counts.{direct_le}
use Rattle.ea_geometry.proofs.sizes.Sizes.direct_pointers.Goals as goal

pub blocks_before-requires : goal.blocks_before-requires
blocks_before-requires c = rw c.direct_super_blocks.ensures (direct_le c.args.self.parameters)

pub returns : goal.returns
unfolding direct_pointers
returns c = c.blocks_before.ensures ∙ ap blocks_before c.direct_super_blocks.ensures
