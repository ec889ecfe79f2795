-- `ea_geometry::sizes::Sizes::capacity` meets its contract. Assumes nothing.
use Rattle.ea_geometry.specs.Slots.{capacity}
use Rattle.ea_geometry.proofs.sizes.Sizes.capacity.Goals as goal

pub returns : goal.returns
unfolding capacity
returns c = rw (c.first_slot.ensures, c.super_blocks.ensures)
