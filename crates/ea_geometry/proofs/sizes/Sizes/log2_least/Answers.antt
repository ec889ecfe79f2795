-- `ea_geometry::sizes::Sizes::log2_least` meets its contract. Assumes nothing.
use Rattle.ea_header.proofs.Log.{trailing_log2}
use Rattle.ea_geometry.proofs.sizes.Sizes.log2_least.Goals as goal

pub returns : goal.returns
returns c = rw c.least_block_elements.ensures (trailing_log2 c.args.self.parameters.min_dblk_nelmts c.args.self.served.power c.args.self.served.least)
