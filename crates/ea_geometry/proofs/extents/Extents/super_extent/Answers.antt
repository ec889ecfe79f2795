-- `ea_geometry::extents::Extents::super_extent` meets its contract. Assumes nothing.
use Prim.Native.Nat.{◌+◌}
use native.Mathlib.Omega.{arith}
use Rattle.ea_geometry.specs.Sizes.{blocks, bitmap_bytes}
use Rattle.ea_geometry.specs.Extents.{block_prefix, block_pointer_at, super_extent}
use Rattle.ea_geometry.proofs.Counts.{blocks_few, bitmap_bytes_few}
use Rattle.ea_geometry.proofs.Positions.{block_prefix_few, pointer_at_le}
use Rattle.ea_geometry.proofs.extents.Extents.super_extent.Goals as goal

pub overflow_add-result : goal.overflow_add-result
unfolding block_pointer_at
overflow_add-result c =
    let h = c.args.self.sizes.parameters in
    let o = c.args.self.offset_size in
    let u = c.args.u in
    rw (c.block_pointer_at.ensures, c.blocks-2.ensures)
    (omega (arith, pointer_at_le h o c.args.self.legal (block_prefix h o + bitmap_bytes h u) (blocks u), block_prefix_few h o c.args.self.legal c.args.self.sizes.served, bitmap_bytes_few h c.args.self.sizes.served u c.requires, blocks_few h c.args.self.sizes.served u c.requires))

pub returns : goal.returns
unfolding super_extent
returns c = rw (c.block_pointer_at.ensures, c.blocks-2.ensures)
