-- `ea_blocks::BoundedArray::test_data_block` meets its contract. Assumes nothing.
use mathlib.Core.Path.{◌≡◌, sym, ◌∙◌}
use mathlib.Core.Bool.{cond}
use Rattle.ea_geometry.specs.Extents.{data_extent, paged_head_extent}
use Rattle.ea_geometry.specs.Place.{in_pages}
use Rattle.ea_blocks.specs.Structures.{kind_of, start_of, extent_of, test_of}
use Rattle.ea_blocks.proofs.BoundedArray.test_data_block.Goals.{Joined-in_pages, then-in_pages, else-in_pages}
use Rattle.ea_blocks.proofs.BoundedArray.test_data_block.Goals as goal

len_is : (c : Joined-in_pages)
    → let h = c.args.self.extents.sizes.parameters in
    let o = c.args.self.extents.offset_size in
    let u = c.args.u in
    c.if-in_pages.len ≡ cond (in_pages h u) (paged_head_extent h o) (data_extent h o u)
len_is c =
    elim c.if-in_pages.branch [
      | then-in_pages w ↦ rw (sym c.in_pages.ensures ∙ w.if-in_pages.true) (w.len-is ∙ w.paged_head_extent-len.ensures)
      | else-in_pages w ↦ rw (sym c.in_pages.ensures ∙ w.if-in_pages.false) (w.len-is ∙ w.data_extent-len.ensures)
    ]

pub returns : goal.returns
unfolding test_of kind_of start_of extent_of
returns c n e = rw (← e, c.test_structure.ensures, len_is (goal.at.returns c).Joined-in_pages)
