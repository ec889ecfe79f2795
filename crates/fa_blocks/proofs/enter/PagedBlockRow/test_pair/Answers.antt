-- `fa_blocks::enter::PagedBlockRow::test_pair` meets its contract. Assumes nothing.
use Prim.Native.Nat.{◌+◌}
use mathlib.Core.Path.{◌≡◌, sym, ◌∙◌}
use native.Mathlib.Omega.{arith}
use Rattle.fields.proofs.Numbers.{fits_is}
use Rattle.structures.proofs.Entering.{found}
use Rattle.fa_geometry.specs.Layout.{page_entries, fixed_page_extent}
use Rattle.fa_blocks.specs.Values.{fixed_in}
use Rattle.fa_blocks.proofs.FixedBlocks.{page_tested}
use Rattle.fa_blocks.proofs.enter.PagedBlockRow.test_pair.Goals as goal

pub returns : goal.returns
unfolding fixed_page_extent
returns c =
    let v = c.args in
    let h = v.self.array.layout.array.header in
    let o = v.self.array.layout.array.offset_size in
    let a = fixed_in v.self.array in
    let room = (fits_is _ _ (sym c.in_ok-page_offset.was ∙ c.page_offset.ensures)).1 in
    let equal : page_entries h v.p ≡ page_entries h (v.p + 1) = sym c.page_entries.ensures.0 ∙ c.if-page_entries.false ∙ c.page_entries-2.ensures.0 in
    let same : fixed_page_extent h o v.p ≡ fixed_page_extent h o (v.p + 1) = rw equal in
    let second = rw (← same, ← c.page_extent-len.ensures, ← (found _ _ _ (sym (c.find.ensures tt) ∙ c.in_ok-next.was)).1) at (page_tested a (v.p + 1) (omega arith) room) in (
      omega arith,
      λ u i.
          let first = rw (← c.page_extent-len.ensures, ← (found _ _ _ i).1) at (page_tested a v.p (omega arith) (omega arith)) in
          (c.test_two_structures.ensures.0 ∙ first, c.test_two_structures.ensures.1 ∙ second),
    )
