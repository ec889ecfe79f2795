-- `span_count::count::count_supers` meets its contract. Assumes nothing.
use Prim.Native.Nat.{◌+◌}
use mathlib.Core.Path.{◌≡◌, sym, ◌∙◌}
use native.Mathlib.Omega.{arith}
use Rattle.std.proofs.Common.{rules, Err}
use Rattle.ea_blocks.specs.Values.{array_in}
use Rattle.span_count.proofs.Counting.{AtSuper, super_first, supers_done, super_refused, super_counted, few_counted}
use Rattle.span_count.proofs.count.count_supers.Goals.{In_ok-total}
use Rattle.span_count.proofs.count.count_supers.Goals as goal

pub loop-u-init : goal.loop-u-init
loop-u-init c = super_first _ _

-- the spans with those of super block u
counted : (c : In_ok-total)
    → let a = c.args in
    AtSuper (array_in a.array.array) c.super_blocks-supers.result (c.loop-u.total + c.in_ok-total.field-0) (c.loop-u.u + 1)
counted c =
    super_counted _ _ c.loop-u.invariant (omega arith) _ (sym c.in_ok-total.was ∙ c.count_super.ensures)

pub overflow_add-total : goal.overflow_add-total
overflow_add-total c =
    let e = c.super_blocks-supers.ensures in
    omega (arith, few_counted _ _ (counted (goal.at.overflow_add-total c).In_ok-total) c.args.array.array.extents.sizes.served (omega arith))

pub returns-in_err-total : goal.returns-in_err-total
returns-in_err-total c =
    let z : c.from_residual.result ≡ Err c.in_err-total.field-0.0 = search rules in
    z ∙ rw (← c.super_blocks-supers.ensures) (super_refused _ _ c.loop-u.invariant (omega arith) _ (sym c.in_err-total.was ∙ c.count_super.ensures))

pub loop-u-preserved : goal.loop-u-preserved
loop-u-preserved c = counted (goal.at.loop-u-preserved c).In_ok-total

pub returns : goal.returns
returns c = rw (← c.super_blocks-supers.ensures) (supers_done _ _ c.loop-u.invariant (omega arith))
