-- `ea_geometry::sizes::Sizes::first_slot` meets its contract. Assumes nothing.
use native.Mathlib.Omega.{arith}
use Rattle.ea_geometry.specs.Slots.{first_slot}
use Rattle.ea_geometry.proofs.Counts.{elements_before_few}
use Rattle.ea_geometry.proofs.sizes.Sizes.first_slot.Goals as goal

pub overflow_add-result : goal.overflow_add-result
overflow_add-result c =
    omega (arith, c.elements_before.ensures, elements_before_few c.args.self.parameters c.args.self.served c.args.u c.requires)

pub returns : goal.returns
unfolding first_slot
returns c = rw c.elements_before.ensures
