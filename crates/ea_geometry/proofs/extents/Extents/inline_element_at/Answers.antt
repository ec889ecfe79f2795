-- `ea_geometry::extents::Extents::inline_element_at` meets its contract. Assumes nothing.
use native.Mathlib.Omega.{arith}
use Rattle.ea_geometry.specs.Extents.{index_prefix, inline_element_at}
use Rattle.ea_geometry.proofs.extents.Extents.inline_element_at.Goals as goal

pub element_at-requires : goal.element_at-requires
unfolding index_prefix
element_at-requires c = (omega (arith, c.index_prefix.ensures), omega arith)

pub returns : goal.returns
unfolding inline_element_at
returns c = rw (c.element_at.ensures, c.index_prefix.ensures)
