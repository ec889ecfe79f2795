-- `ea_geometry::extents::Extents::direct_pointer_at` meets its contract. Assumes nothing.
use Prim.Native.Nat.{◌+◌, ◌≤◌, ◌^◌}
use native.Mathlib.Omega.{arith}
use Rattle.ea_geometry.specs.Extents.{direct_pointer_at}
use Rattle.ea_geometry.specs.Sizes.{direct_super_blocks}
use Rattle.ea_geometry.proofs.Counts.{direct_le, blocks_before_lt, blocks_before_few}
use Rattle.ea_geometry.proofs.Positions.{direct_pointers_at_few}
use Rattle.ea_geometry.proofs.extents.Extents.direct_pointer_at.Goals.{After-blocks_before}
use Rattle.ea_geometry.proofs.extents.Extents.direct_pointer_at.Goals as goal

pub blocks_before-requires : goal.blocks_before-requires
blocks_before-requires c = omega (arith, direct_le c.args.self.sizes.parameters)

number_few : (c : After-blocks_before) → c.blocks_before.result + c.args.k ≤ 2 ^ 33
number_few c =
    let h = c.args.self.sizes.parameters in
    omega (arith, c.blocks_before.ensures, blocks_before_lt c.args.u (direct_super_blocks h) c.args.k c.requires.0 c.requires.1, blocks_before_few h c.args.self.sizes.served (direct_super_blocks h) (direct_le h))

pub overflow_add-blocks_before : goal.overflow_add-blocks_before
overflow_add-blocks_before c = omega (arith, number_few (goal.at.overflow_add-blocks_before c).After-blocks_before)

pub pointer_at-requires : goal.pointer_at-requires
pointer_at-requires c =
    let g = c.args.self in
    (omega (arith, c.direct_pointers_at.ensures, direct_pointers_at_few g.sizes.parameters g.offset_size c.args.self.legal (omega arith) (omega arith)), number_few (goal.at.pointer_at-requires c).After-blocks_before)

pub returns : goal.returns
unfolding direct_pointer_at
returns c = rw (c.pointer_at.ensures, c.direct_pointers_at.ensures, c.blocks_before.ensures)
