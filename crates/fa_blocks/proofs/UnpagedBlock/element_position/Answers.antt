-- `fa_blocks::UnpagedBlock::element_position` meets its contract. Assumes nothing.
use Prim.Native.Nat.{◌+◌, ◌*◌, ◌≤◌}
use native.Mathlib.Omega.{arith}
use lib.ListN.{length}
use Rattle.fa_geometry.specs.Layout.{fixed_element_at}
use Rattle.fa_geometry.proofs.Pages.{unpaged_place}
use Rattle.fa_blocks.specs.Blocks.{fixed_position}
use Rattle.fa_blocks.proofs.FixedBlocks.{unpaged_inside}
use Rattle.fa_blocks.proofs.UnpagedBlock.element_position.Goals.{After-element_stride}
use Rattle.fa_blocks.proofs.UnpagedBlock.element_position.Goals as goal

room : (c : After-element_stride) → c.behind_prefix.result + c.args.slot * c.element_stride.result ≤ length c.args.self.array.file.now
room c = rw c.element_stride.ensures (omega (arith, c.behind_prefix.ensures, unpaged_inside _ c.args.self.inside c.args.self.unpaged _ c.requires))

pub overflow_mul-result : goal.overflow_mul-result
overflow_mul-result c = omega (arith, room (goal.at.overflow_mul-result c).After-element_stride)

pub overflow_add-result : goal.overflow_add-result
overflow_add-result c = omega (arith, room (goal.at.overflow_add-result c).After-element_stride)

pub returns : goal.returns
unfolding fixed_position fixed_element_at
returns c =
    let array = c.args.self.array.layout.array in
    rw c.element_stride.ensures (omega (arith, c.behind_prefix.ensures, unpaged_place array.header array.offset_size c.args.slot c.args.self.unpaged))
