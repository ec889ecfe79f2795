-- `ea_geometry::sizes::Sizes::block_elements` meets its contract. Assumes nothing.
use Prim.Native.Nat.{◌+◌, ◌/◌}
use native.Mathlib.Omega.{arith}
use lib.Pow.{shl_exact}
use Rattle.ea_geometry.specs.Sizes.{block_elements}
use Rattle.ea_geometry.proofs.Counts.{supers_few}
use Rattle.ea_geometry.proofs.sizes.Sizes.block_elements.Goals as goal

pub overflow_add-result : goal.overflow_add-result
overflow_add-result c = omega (arith, supers_few c.args.self.parameters c.args.self.served)

pub overflow_shl-result : goal.overflow_shl-result
overflow_shl-result c = omega (arith, supers_few c.args.self.parameters c.args.self.served)

pub returns : goal.returns
unfolding block_elements
returns c = let a = c.args in
    rw c.least_block_elements.ensures (shl_exact 8 ((a.u + 1) / 2) 64 (omega arith) (omega (arith, supers_few a.self.parameters c.args.self.served)))
