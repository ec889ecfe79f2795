-- `fa_blocks::PagedBlock::page_position` meets its contract. Assumes nothing.
use native.Mathlib.Omega.{arith}
use Rattle.refusal.specs.Refusals.{figure}
use Rattle.fields.proofs.Numbers.{figure_of}
use Rattle.fa_geometry.specs.Layout.{fixed_page_at, fixed_tested_extent}
use Rattle.fa_blocks.specs.Blocks.{fixed_page_position}
use Rattle.fa_blocks.proofs.PagedBlock.page_position.Goals as goal

pub returns : goal.returns
unfolding figure fixed_page_position fixed_page_at fixed_tested_extent
returns c =
    let head = rw c.args.self.paged at c.tested_extent.ensures in
    let inside = rw c.args.self.paged at c.args.self.inside.tested in
    omega (arith, c.saturating_add.ensures, c.unwrap_or.ensures, figure_of _ _ c.page_offset.ensures)
