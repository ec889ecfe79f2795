-- A run as code walks it: its elements below the count, and that they lie in the file. Assumes nothing.
use Prim.Native.Nat.{ℕ, ◌+◌, ◌-◌, ◌*◌, ◌<◌, ◌≤◌, min}
use mathlib.Core.Path.{◌≡◌, refl, ap, ◌∙◌}
use native.Mathlib.Nat.{mul-le-mul_right}
use native.Mathlib.Omega.{arith}
use Rattle.std.specs.Prelude.{Err}
use Rattle.refusal.specs.declared.Refusal.{Refusal}
use Rattle.element_form.specs.Form.{element_size_test}
use Rattle.index.specs.Index.{Listing}
use Rattle.elements.specs.Elements.{Elements}
use Rattle.elements.specs.Runs.{also_element, elements_from}
use Rattle.elements.proofs.Sized.{element_refused}
use Rattle.elements.proofs.Runs.{run_clamp, run_first}

-- where fewer lie in the file, too
pub fewer_lie : (stride pos n left m : ℕ) → left ≤ n → pos + n * stride ≤ m → pos + left * stride ≤ m
fewer_lie stride pos n left m h l = omega (arith, mul-le-mul_right stride h)

-- .. and those behind the first m
pub lie_behind : (stride from left k m : ℕ) → m ≤ left → from + left * stride ≤ k → from + m * stride + (left - m) * stride ≤ k
lie_behind stride from left k m h l =
    let e : left ≡ m + (left - m) = omega arith in
    let f : left * stride ≡ m * stride + (left - m) * stride = ap (λ (j : ℕ). j * stride) e ∙ omega arith in
    omega arith

-- `left` of n slots from `slot` on lie below the count
module _ (es : Elements) (pos n slot left : ℕ) (rest : Listing) (e : left ≡ min n (es.count - slot)) where
  pub left_run : elements_from es pos n slot rest ≡ elements_from es pos left slot rest
  left_run = run_clamp es pos n slot rest ∙ rw e refl

  pub left_none : left ≡ 0 → elements_from es pos n slot rest ≡ rest
  unfolding elements_from
  left_none z = left_run ∙ rw z refl

  pub left_refused : 0 < left → (x : Refusal) → element_size_test es.form ≡ Err x → elements_from es pos n slot rest ≡ Err x
  unfolding also_element
  left_refused h x t = run_first es pos n slot rest (omega arith) (omega arith) ∙ rw (element_refused es pos slot x t) refl
