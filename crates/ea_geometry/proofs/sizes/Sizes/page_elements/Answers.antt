-- `ea_geometry::sizes::Sizes::page_elements` meets its contract. Assumes nothing.
use native.Mathlib.Omega.{arith}
use Rattle.ea_header.proofs.Log.{one_shl}
use Rattle.ea_geometry.specs.Sizes.{page_elements}
use Rattle.ea_geometry.proofs.sizes.Sizes.page_elements.Goals as goal

pub returns : goal.returns
unfolding page_elements
returns c = one_shl c.args.self.parameters.max_dblk_nelmts_bits (omega arith)
