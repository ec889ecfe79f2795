-- What a run begins with: elements that hold no chunk, or one that is refused. Assumes nothing.
use Prim.Native.Nat.{ℕ, zero, suc, ◌+◌, ◌<◌, ◌≤◌}
use mathlib.Core.Path.{◌≡◌, refl, ◌∙◌}
use mathlib.Core.Bool.{true, false}
use mathlib.Core.List.{[]}
use native.Mathlib.Omega.{arith}
use borrow.Author.Tests.{lt-leb}
use Rattle.std.specs.Prelude.{Err, Ok}
use Rattle.refusal.specs.declared.Refusal.{Refusal}
use Rattle.refusal.proofs.Tests.{by_cond}
use Rattle.chunk_grid.specs.Values.{in_extent, offsets_of}
use Rattle.element_form.specs.Form.{stride, element_size_test}
use Rattle.index.specs.Index.{Listing}
use Rattle.elements.specs.Elements.{Elements, undefined_element}
use Rattle.elements.specs.Runs.{also_element, elements_from}
use Rattle.elements.proofs.Runs.{run_first}
use Rattle.elements.proofs.Sized.{element-undefined, element_dropped, element_unnumbered}
use Rattle.element_runs.specs.Defined.{undefined_run}

module _ (es : Elements) (t : element_size_test es.form ≡ Ok tt) where
  -- an undefined one in front
  pub skip_one : (rest : Listing) (pos n s : ℕ) → s < es.count → undefined_element es pos ≡ true
      → elements_from es pos (suc n) s rest ≡ elements_from es (pos + stride es.form) n (s + 1) rest
  unfolding elements_from also_element
  skip_one rest pos n s l u = rw (lt-leb es.count s l, element-undefined es pos s t u) refl

  -- those in front of the first that is defined
  pub gap_none : (pos n s : ℕ) → s + n ≤ es.count
      → elements_from es pos (undefined_run es.file pos n (stride es.form) es.form.offset_size) s (Ok []) ≡ Ok []
  unfolding undefined_run elements_from
  gap_none pos zero s l = refl
  gap_none pos (suc n) s l =
      by_cond (λ (k : ℕ). elements_from es pos k s (Ok []) ≡ Ok []) (undefined_element es pos)
      (λ u. skip_one (Ok []) pos _ s (omega arith) u ∙ gap_none (pos + stride es.form) n (s + 1) (omega arith)) (λ u. refl)

  -- a defined one, by its slot's offsets
  module _ (pos s : ℕ) (u : undefined_element es pos ≡ false) (below : s < es.count) where
    pub outside_none : offsets_of (in_extent es.grid s) ≡ Ok false → elements_from es pos 1 s (Ok []) ≡ Ok []
    unfolding elements_from also_element
    outside_none o = run_first es pos 1 s (Ok []) (omega arith) below ∙ rw (element_dropped es pos s t u o) refl

    pub unnumbered : (n : ℕ) → 0 < n → (r : Refusal) → offsets_of (in_extent es.grid s) ≡ Err r → elements_from es pos n s (Ok []) ≡ Err r
    unfolding also_element
    unnumbered n h r o = run_first es pos n s (Ok []) h below ∙ rw (element_unnumbered es pos s t u r o) refl
