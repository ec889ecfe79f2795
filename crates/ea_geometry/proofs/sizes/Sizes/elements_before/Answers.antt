-- `ea_geometry::sizes::Sizes::elements_before` meets its contract. Assumes nothing.
use Prim.Native.Nat.{◌<◌}
use native.Mathlib.Omega.{arith}
use lib.Pow.{pow_pos}
use Rattle.ea_header.proofs.Log.{one_shl}
use Rattle.ea_geometry.specs.Sizes.{elements_before}
use Rattle.ea_geometry.proofs.Counts.{supers_few, elements_before_few}
use Rattle.ea_geometry.proofs.sizes.Sizes.elements_before.Goals.{After-least_block_elements}
use Rattle.ea_geometry.proofs.sizes.Sizes.elements_before.Goals as goal

few : (c : After-least_block_elements) → c.args.u < 64
few c = omega (arith, supers_few c.args.self.parameters c.args.self.served)

pub overflow_shl-result : goal.overflow_shl-result
overflow_shl-result c = few (goal.at.overflow_shl-result c).After-least_block_elements

pub overflow_sub-result : goal.overflow_sub-result
overflow_sub-result c = omega (arith, one_shl c.args.u (few (goal.at.overflow_sub-result c).After-least_block_elements), pow_pos c.args.u)

pub overflow_mul-result : goal.overflow_mul-result
unfolding elements_before
overflow_mul-result c = rw (one_shl c.args.u (few (goal.at.overflow_mul-result c).After-least_block_elements), c.least_block_elements.ensures)
    (omega (arith, elements_before_few c.args.self.parameters c.args.self.served c.args.u c.requires))

pub returns : goal.returns
unfolding elements_before
returns c = rw (one_shl c.args.u (few (goal.at.returns c).After-least_block_elements), c.least_block_elements.ensures)
