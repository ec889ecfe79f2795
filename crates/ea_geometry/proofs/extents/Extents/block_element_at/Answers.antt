-- `ea_geometry::extents::Extents::block_element_at` meets its contract. Assumes nothing.
use native.Mathlib.Omega.{arith}
use Rattle.ea_geometry.specs.Extents.{block_element_at}
use Rattle.ea_geometry.proofs.Positions.{block_prefix_few}
use Rattle.ea_geometry.proofs.extents.Extents.block_element_at.Goals as goal

pub element_at-requires : goal.element_at-requires
element_at-requires c =
    let g = c.args.self in
    (omega (arith, c.block_prefix.ensures, block_prefix_few g.sizes.parameters g.offset_size c.args.self.legal c.args.self.sizes.served), c.requires)

pub returns : goal.returns
unfolding block_element_at
returns c = rw (c.element_at.ensures, c.block_prefix.ensures)
