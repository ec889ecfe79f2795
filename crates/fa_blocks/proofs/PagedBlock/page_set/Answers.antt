-- `fa_blocks::PagedBlock::page_set` meets its contract. Assumes nothing.
use native.Mathlib.Omega.{arith}
use Rattle.structures.specs.PageBits.{bit_bytes, bit_byte}
use Rattle.fa_blocks.proofs.FixedBlocks.{head_inside}
use Rattle.fa_blocks.proofs.PagedBlock.page_set.Goals as goal

pub page_is_initialized-requires : goal.page_is_initialized-requires
unfolding bit_bytes bit_byte
page_is_initialized-requires c = omega (arith, c.behind_prefix-pos.ensures, head_inside _ c.args.self.inside c.args.self.paged)
