-- `element_runs::defined::count_defined` meets its contract. Assumes nothing.
use Prim.Native.Nat.{◌+◌, ◌*◌}
use mathlib.Core.Path.{◌≡◌, sym, ◌∙◌}
use native.Mathlib.Nat.{sub-zero}
use native.Mathlib.Omega.{arith}
use Rattle.element_runs.proofs.DefinedRuns.{counted_more, counted_all}
use Rattle.element_runs.proofs.defined.count_defined.Goals.{then-is_defined, else-is_defined}
use Rattle.element_runs.proofs.defined.count_defined.Goals as goal

pub loop-i-init : goal.loop-i-init
loop-i-init c =
    let f : c.args.pos + 0 * c.args.stride ≡ c.args.pos = omega arith in
    (omega arith, rw (f, sub-zero) (omega arith))

pub loop-i-preserved : goal.loop-i-preserved
loop-i-preserved c =
    let h = c.loop-i-test.true in
    let l = c.loop-i in
    let d = c.is_defined.ensures in
    elim c.if-is_defined.branch [
      | then-is_defined w ↦ (omega (arith, w.count-is, l.invariant.0), counted_more _ _ _ _ _ _ _ h _ (sym w.if-is_defined.true ∙ d) _ w.count-is l.invariant.1)
      | else-is_defined w ↦ (omega (arith, w.count-is, l.invariant.0), counted_more _ _ _ _ _ _ _ h _ (sym w.if-is_defined.false ∙ d) _ (omega (arith, w.count-is)) l.invariant.1)
    ]

pub returns : goal.returns
returns c = counted_all _ _ _ _ _ c.loop-i.i _ c.loop-i-test.false c.loop-i.invariant.1
