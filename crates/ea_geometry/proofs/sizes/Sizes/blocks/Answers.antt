-- `ea_geometry::sizes::Sizes::blocks` meets its contract. Assumes nothing.
use Prim.Native.Nat.{◌/◌}
use native.Mathlib.Omega.{arith}
use Rattle.ea_header.proofs.Log.{one_shl}
use Rattle.ea_geometry.specs.Sizes.{blocks}
use Rattle.ea_geometry.proofs.Counts.{supers_few}
use Rattle.ea_geometry.proofs.sizes.Sizes.blocks.Goals as goal

pub overflow_shl-result : goal.overflow_shl-result
overflow_shl-result c = omega (arith, supers_few c.args.self.parameters c.args.self.served)

pub returns : goal.returns
unfolding blocks
returns c = one_shl (c.args.u / 2) (omega (arith, supers_few c.args.self.parameters c.args.self.served))
