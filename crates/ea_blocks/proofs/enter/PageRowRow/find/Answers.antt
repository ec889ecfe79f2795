-- `ea_blocks::enter::PageRowRow::find` meets its contract. Assumes nothing.
use mathlib.Core.Path.{refl, sym, ◌∙◌}
use native.Mathlib.Omega.{arith}
use Rattle.ea_blocks.specs.Structures.{data_page_at}
use Rattle.ea_blocks.proofs.Entering.{page_few, page_fits}
use Rattle.ea_blocks.proofs.enter.PageRowRow.find.Goals as goal

pub page_at-requires : goal.page_at-requires
page_at-requires c = page_few _ c.args.self.array.extents.sizes.served _ _ c.args.self.super_below c.requires

pub overflow_add-result : goal.overflow_add-result
overflow_add-result c =
    let r = c.args.self in
    let e = r.array.extents in
    omega (arith, r.begins, c.page_at.ensures, page_fits _ _ e.sizes.served e.legal (omega arith) _ c.args.p r.at r.super_below c.requires (omega arith))

pub returns-then-page_set : goal.returns-then-page_set
unfolding data_page_at
returns-then-page_set c = λ e. rw (sym (c.page_set.ensures e.0) ∙ c.if-page_set.true, ← e.1, c.page_at.ensures) refl
