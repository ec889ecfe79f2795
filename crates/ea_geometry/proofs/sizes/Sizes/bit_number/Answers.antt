-- `ea_geometry::sizes::Sizes::bit_number` meets its contract. Assumes nothing.
use Prim.Native.Nat.{◌+◌, ◌*◌, ◌^◌, ◌<◌}
use native.Mathlib.Omega.{arith}
use lib.Arith.{digits_lt}
use Rattle.ea_geometry.specs.Sizes.{bit_number}
use Rattle.ea_geometry.proofs.Counts.{bits_few}
use Rattle.ea_geometry.proofs.sizes.Sizes.bit_number.Goals.{After-pages}
use Rattle.ea_geometry.proofs.sizes.Sizes.bit_number.Goals as goal

few : (c : After-pages) → c.args.k * c.pages.result + c.args.p < 2 ^ 62
few c =
    rw c.pages.ensures (omega (arith, digits_lt c.requires.1 c.requires.2, bits_few c.args.self.parameters c.args.self.served c.args.u c.requires.0))

pub overflow_mul-result : goal.overflow_mul-result
overflow_mul-result c = omega (arith, few (goal.at.overflow_mul-result c).After-pages)

pub overflow_add-result : goal.overflow_add-result
overflow_add-result c = omega (arith, few (goal.at.overflow_add-result c).After-pages)

pub returns : goal.returns
unfolding bit_number
returns c = rw c.pages.ensures
