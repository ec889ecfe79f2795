-- `ea_geometry::extents::Extents::block_pointer_at` meets its contract. Assumes nothing.
use Prim.Native.Nat.{◌+◌, ◌≤◌, ◌^◌}
use native.Mathlib.Omega.{arith}
use Rattle.ea_geometry.specs.Extents.{block_pointer_at}
use Rattle.ea_geometry.proofs.Counts.{blocks_few, bitmap_bytes_few}
use Rattle.ea_geometry.proofs.Positions.{block_prefix_few}
use Rattle.ea_geometry.proofs.extents.Extents.block_pointer_at.Goals.{After-bitmap_bytes}
use Rattle.ea_geometry.proofs.extents.Extents.block_pointer_at.Goals as goal

behind : (c : After-bitmap_bytes) → c.block_prefix.result + c.bitmap_bytes.result ≤ 2 ^ 63
behind c =
    let g = c.args.self in
    omega (arith, c.block_prefix.ensures, c.bitmap_bytes.ensures, block_prefix_few g.sizes.parameters g.offset_size c.args.self.legal c.args.self.sizes.served, bitmap_bytes_few g.sizes.parameters c.args.self.sizes.served c.args.u c.requires.0)

pub overflow_add-block_prefix : goal.overflow_add-block_prefix
overflow_add-block_prefix c = omega (arith, behind (goal.at.overflow_add-block_prefix c).After-bitmap_bytes)

pub pointer_at-requires : goal.pointer_at-requires
pointer_at-requires c =
    (behind (goal.at.pointer_at-requires c).After-bitmap_bytes, omega (arith, blocks_few c.args.self.sizes.parameters c.args.self.sizes.served c.args.u c.requires.0))

pub returns : goal.returns
unfolding block_pointer_at
returns c = rw (c.pointer_at.ensures, c.block_prefix.ensures, c.bitmap_bytes.ensures)
