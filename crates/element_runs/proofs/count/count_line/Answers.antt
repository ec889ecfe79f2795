-- `element_runs::count::count_line` meets its contract. Assumes nothing.
use Prim.Native.Nat.{ℕ, ◌+◌, ◌*◌, ◌<◌}
use mathlib.Core.Path.{◌≡◌, sym, ap, ◌∙◌}
use Rattle.std.proofs.Common.{rules}
use native.Mathlib.Omega.{arith}
use native.Mathlib.Nat.{sub-zero, add-zero}
use Rattle.std.specs.Prelude.{Ok, true}
use Rattle.chunk_grid.specs.Grid.{Grid}
use Rattle.chunk_grid.specs.Values.{in_extent, offsets_of}
use Rattle.element_form.specs.Form.{stride}
use Rattle.element_form.proofs.Forms.{sized_width, sized-stride}
use Rattle.elements.specs.Elements.{element}
use Rattle.elements.specs.Values.{found_of, elements_of, Reads}
use Rattle.element_runs.proofs.AllChunks.{line_counted}
use Rattle.element_runs.proofs.Counting.{counting_first, counting_done, counting_refused, counting_next, one_refused, one_none, one_some}
use Rattle.element_runs.proofs.count.count_line.Goals.{At-loop-i, After-read_inside_element, then-is_some, else-is_some}
use Rattle.element_runs.proofs.count.count_line.Goals as goal

pub count_defined-requires : goal.count_defined-requires
count_defined-requires c =
    let t = c.args.sized.now.sized in
    rw c.stride-stride.ensures (sized_width _ t, sized-stride _ t, c.requires)

pub returns-then-sizes_fit : goal.returns-then-sizes_fit
returns-then-sizes_fit c = λ grid m s x b i.
    let a = c.args in
    let e = elements_of a.file.now a.sized.now.reader grid m in
    ap Ok (rw c.stride-stride.ensures at c.count_defined.ensures)
    ∙ line_counted e (λ j. omega (arith, c.type_inv.file j)) a.sized.now.sized (sym (c.sizes_fit.ensures grid m x.chunked) ∙ c.if-sizes_fit.true) a.pos a.n s b i

pub loop-i-init : goal.loop-i-init
loop-i-init c =
    let a = c.args in
    let f : a.pos + 0 * stride a.sized.now.reader.form ≡ a.pos = omega arith in
    (omega arith, λ grid m s x b i. rw (f, sub-zero, add-zero) (counting_first _ _ _ s c.requires))

-- the slots are in the extents
abbrev Inside : At-loop-i → Grid → ℕ → Type 0
Inside c grid s = (j : ℕ) → j < c.args.n → offsets_of (in_extent grid (s + j)) ≡ Ok true

-- the element that is read
is_element : (c : After-read_inside_element) {grid : Grid} {m : ℕ} (s : ℕ) → Reads c.args.sized.now.reader grid m → Inside (goal.at.After-read_inside_element c).At-loop-i grid s
    → c.read_inside_element.result
    ≡ found_of (element (elements_of c.args.file.now c.args.sized.now.reader grid m) (c.args.pos + c.loop-i.i * stride c.args.sized.now.reader.form) (s + c.loop-i.i))
is_element c s x i = let e = c.read_inside_element.ensures _ _ (s + c.loop-i.i) x.chunked (i _ c.loop-i-test.true) in rw c.stride-stride.ensures at e

pub returns-in_err-read_inside_element : goal.returns-in_err-read_inside_element
returns-in_err-read_inside_element c = λ grid m s x b i.
    let h = c.loop-i-test.true in
    let e = is_element (goal.at.returns-in_err-read_inside_element c).After-read_inside_element s x i in
    let r = counting_refused (c.loop-i.invariant.1 grid m s x b i) 1 (omega arith) _ (one_refused _ _ (s + c.loop-i.i) (omega (arith, b, h)) _ e _ c.in_err-read_inside_element.was) in
    search rules

pub loop-i-preserved : goal.loop-i-preserved
loop-i-preserved c =
    let h = c.loop-i-test.true in
    let v = c.in_ok-read_inside_element.was in
    let z : c.loop-i.count + 0 ≡ c.loop-i.count = omega arith in
    let at = (goal.at.loop-i-preserved c).After-read_inside_element in
    elim c.if-is_some.branch [
      | then-is_some w ↦
          (omega (arith, w.count-is, c.loop-i.invariant.0), λ grid m s x b i. rw w.count-is (counting_next (c.loop-i.invariant.1 grid m s x b i) h 1 (one_some _ _ _ (omega (arith, b, h)) _ (is_element at s x i) _ v (sym c.is_some.ensures ∙ w.if-is_some.true))))
      | else-is_some w ↦
          (omega (arith, w.count-is, c.loop-i.invariant.0), λ grid m s x b i. rw (w.count-is, ← z) (counting_next (c.loop-i.invariant.1 grid m s x b i) h 0 (one_none _ _ _ (omega (arith, b, h)) _ (is_element at s x i) _ v (sym c.is_some.ensures ∙ w.if-is_some.false))))
    ]

pub returns : goal.returns
returns c = λ grid m s x b i. counting_done (c.loop-i.invariant.1 grid m s x b i) (omega (arith, c.loop-i-test.false))
