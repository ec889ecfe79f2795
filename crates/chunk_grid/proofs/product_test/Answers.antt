-- `chunk_grid::product_test` meets its contract. Assumes nothing.
use mathlib.Core.Path.{◌≡◌, sym, ap, ◌∙◌}
use Rattle.std.specs.Prelude.{Err}
use Rattle.std.proofs.Common.{rules}
use Rattle.chunk_grid.proofs.Building.{product_end, product-unlimited, product_over, product_on, taken, too_many}
use Rattle.chunk_grid.proofs.product_test.Goals as goal

pub returns-then-count : goal.returns-then-count
returns-then-count c =
    let l = c.loop-count in
    sym (product-unlimited l.product l.count-index _ c.loop-count-test.true c.if-count.true) ∙ l.invariant

pub returns-in_err-product : goal.returns-in_err-product
returns-in_err-product c =
    let r : c.from_residual.result ≡ Err c.in_err-product.field-0.0 = search rules in
    let t = too_many _ _ _ c.checked_mul.ensures (sym c.ok_or.ensures.value ∙ c.in_err-product.was) in
    let l = c.loop-count in
    r ∙ ap Err t.1 ∙ sym (product_over l.product l.count-index _ c.loop-count-test.true c.if-count.false t.0) ∙ l.invariant

pub loop-count-preserved : goal.loop-count-preserved
loop-count-preserved c =
    let l = c.loop-count in
    let t = taken _ _ _ c.checked_mul.ensures (sym c.ok_or.ensures.value ∙ c.in_ok-product.was) in
    rw t.1 (sym (product_on l.product l.count-index _ c.loop-count-test.true c.if-count.false t.0) ∙ l.invariant)

pub returns : goal.returns
returns c = sym (product_end _ _ _ c.loop-count-test.false) ∙ c.loop-count.invariant
