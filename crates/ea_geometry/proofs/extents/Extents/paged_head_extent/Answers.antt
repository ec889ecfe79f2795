-- `ea_geometry::extents::Extents::paged_head_extent` meets its contract. Assumes nothing.
use native.Mathlib.Omega.{arith}
use Rattle.ea_geometry.specs.Extents.{paged_head_extent}
use Rattle.ea_geometry.proofs.Positions.{block_prefix_few}
use Rattle.ea_geometry.proofs.extents.Extents.paged_head_extent.Goals as goal

pub overflow_add-result : goal.overflow_add-result
overflow_add-result c =
    let g = c.args.self in
    omega (arith, c.block_prefix.ensures, block_prefix_few g.sizes.parameters g.offset_size c.args.self.legal c.args.self.sizes.served)

pub returns : goal.returns
unfolding paged_head_extent
returns c = rw c.block_prefix.ensures
