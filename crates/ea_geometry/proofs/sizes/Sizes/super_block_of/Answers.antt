-- `ea_geometry::sizes::Sizes::super_block_of` meets its contract. Assumes nothing.
use Prim.Native.Nat.{◌+◌, ◌-◌, ◌/◌, ◌^◌, ◌<◌, ◌≤◌}
use mathlib.Core.Path.{◌≡◌}
use native.Mathlib.Nat.{div-le_self}
use native.Mathlib.Omega.{arith}
use lib.Count.{count_leading_zeros}
use Rattle.ea_header.specs.Log.{log2}
use Rattle.ea_header.proofs.Log.{top_place}
use Rattle.ea_geometry.specs.Place.{super_of}
use Rattle.ea_geometry.proofs.sizes.Sizes.super_block_of.Goals.{After-least_block_elements}
use Rattle.ea_geometry.proofs.sizes.Sizes.super_block_of.Goals as goal

fits : (c : After-least_block_elements) → c.args.e / c.least_block_elements.result + 1 < 2 ^ 64
fits c = omega (arith, div-le_self c.args.e c.least_block_elements.result)

top : (c : After-least_block_elements)
    → let n = c.args.e / c.least_block_elements.result + 1 in
    (count_leading_zeros 64 n ≤ 63) × (63 - count_leading_zeros 64 n ≡ log2 n)
top c = top_place (c.args.e / c.least_block_elements.result + 1) (omega arith) (fits c)

pub returns : goal.returns
unfolding super_of
returns c = rw ((top (goal.at.returns c).After-least_block_elements).1, c.least_block_elements.ensures)
