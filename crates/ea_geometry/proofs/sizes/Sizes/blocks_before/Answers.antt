-- `ea_geometry::sizes::Sizes::blocks_before` meets its contract. Assumes nothing.
use Prim.Native.Nat.{◌+◌, ◌/◌, ◌≤◌}
use mathlib.Core.Path.{sym}
use native.Mathlib.Omega.{arith}
use lib.Pow.{pow_pos}
use Rattle.ea_header.proofs.Log.{one_shl}
use Rattle.ea_geometry.proofs.Counts.{supers_few, blocks_before_is, blocks_before_few}
use Rattle.ea_geometry.proofs.sizes.Sizes.blocks_before.Goals.{Start}
use Rattle.ea_geometry.proofs.sizes.Sizes.blocks_before.Goals as goal

few : (c : Start) → c.args.u ≤ 63
few c = omega (arith, supers_few c.args.self.parameters c.args.self.served)

pub overflow_add-result : goal.overflow_add-result
overflow_add-result c = omega (arith, few (goal.at.overflow_add-result c).Start)

pub overflow_shl-result : goal.overflow_shl-result
overflow_shl-result c = omega (arith, few (goal.at.overflow_shl-result c).Start)

pub overflow_sub-result : goal.overflow_sub-result
overflow_sub-result c = let k = (c.args.u + 1) / 2 in
    omega (arith, one_shl k (omega (arith, few (goal.at.overflow_sub-result c).Start)), pow_pos k)

pub overflow_shl-result-2 : goal.overflow_shl-result-2
overflow_shl-result-2 c = omega (arith, few (goal.at.overflow_shl-result-2 c).Start)

pub overflow_sub-result-2 : goal.overflow_sub-result-2
overflow_sub-result-2 c = let k = c.args.u / 2 in
    omega (arith, one_shl k (omega (arith, few (goal.at.overflow_sub-result-2 c).Start)), pow_pos k)

pub overflow_add-result-2 : goal.overflow_add-result-2
overflow_add-result-2 c = let u = c.args.u in
    rw (one_shl ((u + 1) / 2) (omega (arith, few (goal.at.overflow_add-result-2 c).Start)), one_shl (u / 2) (omega (arith, few (goal.at.overflow_add-result-2 c).Start)))
    (omega (arith, blocks_before_is u, blocks_before_few c.args.self.parameters c.args.self.served u c.requires))

pub returns : goal.returns
returns c = let u = c.args.u in
    rw (one_shl ((u + 1) / 2) (omega (arith, few (goal.at.returns c).Start)), one_shl (u / 2) (omega (arith, few (goal.at.returns c).Start))) (sym (blocks_before_is u))
