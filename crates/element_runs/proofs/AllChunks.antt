-- Runs whose defined elements are all chunks': their records are as many. Assumes nothing.
use Prim.Native.Nat.{ℕ, zero, suc, ◌+◌, ◌-◌, ◌*◌, ◌^◌, ◌<◌, ◌≤◌}
use mathlib.Core.Path.{◌≡◌, refl, sym, ap, ◌∙◌}
use mathlib.Core.Bool.{Bool, true, false}
use mathlib.Core.List.{List, []}
use mathlib.Core.Logic.{⊎_elim}
use native.Mathlib.Omega.{arith}
use borrow.Author.Tests.{le-ltb, lt-leb, leb-true}
use lib.Dec.{leb}
use lib.ListN.{get_or}
use lib.Pow.{pow_mono}
use Rattle.std.specs.Prelude.{Ok, Some}
use Rattle.refusal.specs.Refusals.{figure, refuse, ◌then◌}
use Rattle.refusal.specs.Values.{plus, counted_of}
use Rattle.refusal.proofs.Tests.{by_cond, both, lt_or_ge}
use Rattle.refusal.proofs.Counts.{plus_zero, plus_none, plus-also}
use Rattle.fields.specs.LittleEndian.{le_at}
use Rattle.fields.specs.Fields.{size_test}
use Rattle.fields.proofs.LittleEndian.{le_small}
use Rattle.chunk_grid.specs.Grid.{Grid}
use Rattle.chunk_grid.specs.Values.{GridNumbers, Extents, in_extent, offsets_of}
use Rattle.chunk_slots.specs.AllInside.{all_inside}
use Rattle.chunk_slots.proofs.AllInside.{all_inside_lem}
use Rattle.element_form.specs.declared.Form.{Form}
use Rattle.element_form.specs.Form.{filtered, stride, size_bytes, element_size_test}
use Rattle.index.specs.Index.{Listing}
use Rattle.elements.specs.Elements.{Elements, chunk_bytes, undefined_element, size_at, entry_test, element}
use Rattle.elements.specs.Runs.{also_element, elements_from}
use Rattle.elements.proofs.Elements.{record_here, chunk_here}
use Rattle.element_runs.specs.Defined.{defined_count, sizes_fit, all_chunks}
use Rattle.element_runs.proofs.Steps.{skip_one}

-- a size that passes its test
small_size : (n : ℕ) → n < 2 ^ 32 → size_test n ≡ Ok tt
unfolding size_test refuse
small_size n h = rw (le-ltb (2 ^ 32 - 1) n (omega arith)) refl

-- a number and its figure are compared alike
figure_leb : (n : ℕ) → leb (figure n) (2 ^ 32 - 1) ≡ leb n (2 ^ 32 - 1)
unfolding figure
figure_leb n =
    ⊎_elim (λ (h : 2 ^ 32 - 1 < n). lt-leb (figure n) (2 ^ 32 - 1) (omega arith) ∙ sym (lt-leb n (2 ^ 32 - 1) h))
    (λ (h : n ≤ 2 ^ 32 - 1). let e : figure n ≡ n = omega arith in ap (λ (k : ℕ). leb k (2 ^ 32 - 1)) e) (lt_or_ge (2 ^ 32 - 1) n)

-- whether sizes fit, as it is tested
module _ (f : Form) (g : Grid) (n : ℕ) where
  pub fit_plain : filtered f ≡ false → (bytes : ℕ) → bytes ≡ figure (chunk_bytes g n) → leb bytes (2 ^ 32 - 1) ≡ sizes_fit f g n
  unfolding sizes_fit
  fit_plain p bytes e = rw (p, e) (figure_leb (chunk_bytes g n))

  pub fit_filtered : filtered f ≡ true → (w : ℕ) → w ≡ size_bytes f → leb w 4 ≡ sizes_fit f g n
  unfolding sizes_fit
  fit_filtered p w e = rw (p, e) refl

module _ (es : Elements) (bytes : (i : ℕ) → get_or es.file i 0 < 256) (t : element_size_test es.form ≡ Ok tt) where
  module _ (fits : sizes_fit es.form es.grid es.element_bytes ≡ true) where
    -- every entry passes its test
    size_small : (pos : ℕ) → size_bytes es.form ≤ 4 → le_at es.file pos (size_bytes es.form) < 2 ^ 32
    size_small pos l =
        let w = size_bytes es.form in
        let k : 2 ^ (8 * w) ≤ 2 ^ 32 = pow_mono {j = 32} (omega arith) in
        omega (arith, le_small es.file bytes w pos)

    passes_by : (b : Bool) → filtered es.form ≡ b → (pos : ℕ) → entry_test es pos ≡ Ok tt
    unfolding entry_test size_at sizes_fit refuse ◌then◌
    passes_by true e pos =
        let l : size_bytes es.form ≤ 4 = leb-true (size_bytes es.form) 4 (rw e at fits) in
        rw (e, le-ltb 8 (size_bytes es.form) (omega arith)) (small_size _ (size_small (pos + es.form.offset_size) l))
    passes_by false e pos =
        let l : chunk_bytes es.grid es.element_bytes ≤ 2 ^ 32 - 1 = leb-true (chunk_bytes es.grid es.element_bytes) (2 ^ 32 - 1) (rw e at fits) in
        rw e (small_size _ (omega arith))

    -- a defined element inside the extents
    chunk_is : (pos s : ℕ) → offsets_of (in_extent es.grid s) ≡ Ok true → undefined_element es pos ≡ false → element es pos s ≡ Ok (Some (record_here es pos s))
    chunk_is pos s i u = chunk_here es pos s t i u (passes_by (filtered es.form) refl pos)

    module _ (rest : Listing) where
      defined_one : (pos j s k : ℕ) → offsets_of (in_extent es.grid s) ≡ Ok true → s < es.count → undefined_element es pos ≡ false
          → plus k (elements_from es pos (suc j) s rest) ≡ plus (k + 1) (elements_from es (pos + stride es.form) j (s + 1) rest)
      unfolding elements_from also_element
      defined_one pos j s k h l u = rw (lt-leb es.count s l, chunk_is pos s h u) (plus-also k _ _)

      -- a run of slots inside the extents
      inside_counted : (pos j s k : ℕ) → ((i : ℕ) → i < j → offsets_of (in_extent es.grid (s + i)) ≡ Ok true) → s + j ≤ es.count
          → plus k (elements_from es pos j s rest) ≡ plus (k + defined_count es.file pos j (stride es.form) es.form.offset_size) rest
      unfolding defined_count elements_from
      inside_counted pos zero s k h l = ap (λ (m : ℕ). plus m rest) (omega arith)
      inside_counted pos (suc j) s k h l =
          let from = pos + stride es.form in
          let d = defined_count es.file from j (stride es.form) es.form.offset_size in
          let here : offsets_of (in_extent es.grid s) ≡ Ok true = (let e : s + 0 ≡ s = omega arith in rw e at (h 0 (omega arith))) in
          let others : (i : ℕ) → i < j → offsets_of (in_extent es.grid (s + 1 + i)) ≡ Ok true = λ i b. (let e : s + 1 + i ≡ s + suc i = omega arith in rw e (h (suc i) (omega arith))) in
          let later : (m : ℕ) → plus m (elements_from es from j (s + 1) rest) ≡ plus (m + d) rest = λ m. inside_counted from j (s + 1) m others (omega arith) in
          by_cond (λ (m : ℕ). plus k (elements_from es pos (suc j) s rest) ≡ plus (k + (m + d)) rest) (undefined_element es pos)
          (λ u. ap (plus k) (skip_one es t rest pos j s (omega arith) u) ∙ later k ∙ ap (λ (m : ℕ). plus m rest) (omega arith))
          (λ u. defined_one pos j s k here (omega arith) u ∙ later (k + 1) ∙ ap (λ (m : ℕ). plus m rest) (omega arith))

    pub line_counted : (pos j s : ℕ) → s + j ≤ es.count → ((i : ℕ) → i < j → offsets_of (in_extent es.grid (s + i)) ≡ Ok true)
        → Ok (defined_count es.file pos j (stride es.form) es.form.offset_size) ≡ counted_of (elements_from es pos j s (Ok []))
    line_counted pos j s l h = ap Ok (omega arith) ∙ sym (inside_counted (Ok []) pos j s 0 h l ∙ plus_none _ _ refl) ∙ plus_zero _

  -- the first n slots
  pub all_counted : {rank u : ℕ} {chunk bound down : List ℕ} {numbers : Bool} → GridNumbers rank u chunk down es.grid → Extents rank numbers bound es.grid
      → (n : ℕ) → all_chunks es.form es.grid es.element_bytes n ≡ true → (pos j s : ℕ) → s + j ≤ n → s + j ≤ es.count
      → Ok (defined_count es.file pos j (stride es.form) es.form.offset_size) ≡ counted_of (elements_from es pos j s (Ok []))
  unfolding all_chunks
  all_counted g x n all pos j s h l =
      let parts = both (sizes_fit es.form es.grid es.element_bytes) (all_inside es.grid n) all in
      let reached = all_inside_lem es.grid _ _ _ _ g _ _ x n parts.1 in
      line_counted parts.0 pos j s l (λ i b. reached (s + i) (omega arith))
