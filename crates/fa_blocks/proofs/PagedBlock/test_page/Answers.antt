-- `fa_blocks::PagedBlock::test_page` meets its contract. Assumes nothing.
use mathlib.Core.Path.{ap, ◌∙◌}
use mathlib.Core.Bool.{not}
use native.Mathlib.Omega.{arith}
use Rattle.fields.proofs.Numbers.{figure_of, none_past, some_fits}
use Rattle.fa_blocks.proofs.FixedBlocks.{page_past, page_tested}
use Rattle.fa_blocks.proofs.PagedBlock.test_page.Goals as goal

pub returns-then-is_none : goal.returns-then-is_none
returns-then-is_none c =
    let past = none_past _ _ c.page_offset.ensures (c.is_none.ensures ∙ ap not c.if-is_none.true) in
    rw (c.unwrap_or-stride.ensures ∙ figure_of _ _ c.page_stride.ensures) (page_past _ _ (omega arith) past)

pub returns : goal.returns
returns c =
    let le = some_fits _ _ c.page_offset.ensures (c.is_none.ensures ∙ ap not c.if-is_none.false) in
    rw (c.test_structure.ensures, c.page_position.ensures, c.page_extent.ensures) (page_tested _ _ (omega arith) le)
