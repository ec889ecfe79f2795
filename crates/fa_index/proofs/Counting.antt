-- The pages of a fixed array as they are counted: at page p, what is counted and the walk from there on are the whole;
-- what each turn needs, and what it leaves. Assumes nothing.
use Prim.{tt}
use Prim.Native.Nat.{ℕ, ◌+◌, ◌-◌, ◌*◌, ◌<◌, ◌≤◌, min}
use mathlib.Core.Path.{◌≡◌, refl, sym, ap, ◌∙◌}
use mathlib.Core.List.{[]}
use mathlib.Core.Logic.{⊎_elim}
use native.Mathlib.Bridge.{le_prop}
use native.Mathlib.Omega.{arith}
use lib.ListN.{length}
use Rattle.std.specs.Prelude.{Err, None, Ok, Option, Some}
use Rattle.refusal.specs.Refusals.{Outcome}
use Rattle.refusal.specs.declared.Refusal.{Refusal}
use Rattle.refusal.specs.Values.{plus, counted_of}
use Rattle.refusal.proofs.Tests.{lt_or_ge}
use Rattle.refusal.proofs.Counts.{plus_none, plus_zero}
use Rattle.structures.specs.declared.enter.Ahead.{Ahead}
use Rattle.structures.specs.Entered.{TestedBy}
use Rattle.index.specs.Index.{Listing}
use Rattle.elements.specs.declared.ElementReader.{ElementReader}
use Rattle.element_form.specs.Form.{stride}
use Rattle.elements.specs.Elements.{Elements}
use Rattle.elements.specs.Runs.{elements_from, pages_from}
use Rattle.chunk_grid.specs.Grid.{Grid}
use Rattle.elements.specs.Values.{elements_of, Reads}
use Rattle.elements.proofs.Readers.{reads_any}
use Rattle.elements.proofs.Runs.{run_count, run_refused, run_clamp, count_few}
use Rattle.elements.proofs.Pages.{pages_none, pages_clear, pages_refused, pages_last, pages_set}
use Rattle.fa_header.specs.declared.FixedArrayHeader.{FixedArrayHeader}
use Rattle.fa_geometry.specs.Layout.{fixed_page_elements, fixed_pages, page_entries}
use Rattle.fa_geometry.proofs.Pages.{page_before}
use Rattle.fa_blocks.specs.declared.PagedBlock.{PagedBlock}
use Rattle.fa_blocks.specs.FixedArray.{FixedArray}
use Rattle.fa_blocks.specs.Blocks.{fixed_page_test, fixed_page_position, fixed_pages_of}
use Rattle.fa_blocks.specs.Values.{fixed_in, EnteredFixedPage}
use Rattle.fa_walk.proofs.Room.{entries_inside}
use Rattle.fa_index.specs.Given.{ReadsAll}

-- what the pages are counted with: the function's parameters, and what it computes of them before its loop
pub record Setting : Type 0 where
  pub block : PagedBlock
  pub reader : ElementReader
  pub pages : ℕ
  pub page : ℕ

module _ (w : Setting) where
  abbrev a : FixedArray
  a = fixed_in w.block.array

  abbrev h : FixedArrayHeader
  h = w.block.array.layout.array.header

  -- the elements of a grid and element size, and what holds of those of each that the reader is made of
  abbrev read : Grid → ℕ → Elements
  read grid n = elements_of w.block.array.file.now w.reader grid n

  abbrev Every : (Elements → Type 0) → Type 0
  Every P = (grid : Grid) (n : ℕ) → Reads w.reader grid n → P (read grid n)

  -- the walk from page p on, and the whole
  abbrev left : ℕ → Elements → Listing
  left p es = pages_from es (fixed_pages_of a) (fixed_pages h - p) p (p * fixed_page_elements h) (Ok [])

  abbrev whole : Elements → Outcome ℕ
  whole es = counted_of (pages_from es (fixed_pages_of a) (fixed_pages h) 0 0 (Ok []))

  -- this answer is the whole's
  abbrev pub Done : Outcome ℕ → Type 0
  Done x = Every (λ es. x ≡ whole es)

  -- n elements from pos on, of the slots from s on, are counted, or refused
  abbrev pub Run : ℕ → ℕ → ℕ → Outcome ℕ → Type 0
  Run pos j s x = Every (λ es. x ≡ counted_of (elements_from es pos j s (Ok [])))

  -- what doesn't change
  pub record Fixed : Type 0 where
    pub by : ReadsAll w.block.array.layout.array w.reader
    pub pages_are : w.pages ≡ fixed_pages h
    pub page_is : w.page ≡ fixed_page_elements h

  -- at page p
  pub record InPages (total : ℕ) (ahead : Option Ahead) (p : ℕ) : Type 0 where
    pub fixed : Fixed
    pub few : total ≤ p * w.page
    pub ahead_is : TestedBy (fixed_page_test a) ahead
    pub rest : Every (λ es. plus total (left p es) ≡ whole es)

  pub pages-first : Fixed → InPages 0 None 0
  pages-first x = record {
    fixed = x;
    few = omega arith;
    ahead_is = tt;
    rest = λ grid n r. plus_zero _ ∙ ap counted_of (first (read grid n));
  }
    where
      first : (es : Elements) → left 0 es ≡ pages_from es (fixed_pages_of a) (fixed_pages h) 0 0 (Ok [])
      first es =
          let y : fixed_pages h - 0 ≡ fixed_pages h = omega arith in
          let z : 0 * fixed_page_elements h ≡ 0 = omega arith in
          rw (y, z) refl

  module _ {total : ℕ} {ahead : Option Ahead} {p : ℕ} (i : InPages total ahead p) where
    -- behind the last page
    pub pages_end : w.pages ≤ p → Done (Ok total)
    pages_end le = λ grid n r.
        let e = i.fixed.pages_are in
        sym (plus_none total _ (pages_none (read grid n) (fixed_pages_of a) (fixed_pages h) p _ (Ok []) (omega arith))) ∙ i.rest grid n r

    module _ (lt : p < w.pages) where
      page_of_lem : p < fixed_pages h
      page_of_lem = let e = i.fixed.pages_are in omega arith

      -- its slots begin below the count
      pub page_begins : p * w.page < h.num_elements
      page_begins = rw i.fixed.page_is (page_before h p page_of_lem)

      next_slot : (p + 1) * fixed_page_elements h ≡ p * fixed_page_elements h + fixed_page_elements h
      next_slot = omega arith

      next_left : (es : Elements) → pages_from es (fixed_pages_of a) (fixed_pages h - (p + 1)) (p + 1) (p * fixed_page_elements h + fixed_page_elements h) (Ok []) ≡ left (p + 1) es
      next_left es = rw next_slot refl

      -- its bit is clear
      pub page_clear : {next : Option Ahead} → EnteredFixedPage a p (Ok None) → TestedBy (fixed_page_test a) next → InPages total next (p + 1)
      page_clear e t = record {
        fixed = i.fixed;
        few = let x = i.few in omega arith;
        ahead_is = t;
        rest = λ grid n r.
            let es = read grid n in
            ap (plus total) (sym (pages_clear es (fixed_pages_of a) (fixed_pages h) p _ (Ok []) page_of_lem e ∙ next_left es)) ∙ i.rest grid n r;
      }

      -- it is refused
      pub page_refused : (x : Refusal) → EnteredFixedPage a p (Err x) → Done (Err x)
      unfolding plus
      page_refused x e = λ grid n r.
          ap (plus total) (sym (pages_refused (read grid n) (fixed_pages_of a) (fixed_pages h) p _ (Ok []) page_of_lem e.0 x e.1)) ∙ i.rest grid n r

      -- it has passed its test
      module _ {pos entries : ℕ} (e : EnteredFixedPage a p (Ok (Some pos))) (are : entries ≡ page_entries h p) where
        pub page_run : pos + entries * stride w.reader.form ≤ length w.block.array.file.now
        page_run = rw (← i.fixed.by.formed, are, e.2) (entries_inside a p e.1)

        -- where the count ends in it, it is the last
        last : h.num_elements < p * fixed_page_elements h + fixed_page_elements h → fixed_pages h ≤ p + 1
        last past =
            ⊎_elim (λ (x : p + 1 < fixed_pages h). absurd (omega (arith, page_before h (p + 1) x))) (λ (x : fixed_pages h ≤ p + 1). x)
            (lt_or_ge (p + 1) (fixed_pages h))

        -- its elements in front of what is left: those of a full page, ..
        full : (grid : Grid) (n : ℕ)
            → let es = read grid n in
            left p es ≡ elements_from es (fixed_page_position a p) (fixed_page_elements h) (p * fixed_page_elements h) (left (p + 1) es)
        full grid n =
            let es = read grid n in
            let run = elements_from es (fixed_page_position a p) (fixed_page_elements h) (p * fixed_page_elements h) in
            let c = i.fixed.by.entries in
            ⊎_elim
            (λ (past : w.reader.count < p * fixed_page_elements h + fixed_page_elements h).
            pages_last es (fixed_pages_of a) (fixed_pages h) p _ (Ok []) page_of_lem e.0 e.1 past
            ∙ ap run (sym (pages_none es (fixed_pages_of a) (fixed_pages h) (p + 1) _ (Ok []) (last (omega arith)))))
            (λ (le : p * fixed_page_elements h + fixed_page_elements h ≤ w.reader.count).
            pages_set es (fixed_pages_of a) (fixed_pages h) p _ (Ok []) page_of_lem e.0 e.1 le ∙ ap run (next_left es))
            (lt_or_ge w.reader.count (p * fixed_page_elements h + fixed_page_elements h))

        -- .. of which only its own lie below the count
        turn : (grid : Grid) (n : ℕ) → let es = read grid n in left p es ≡ elements_from es pos entries (p * w.page) (left (p + 1) es)
        unfolding page_entries
        turn grid n =
            let y : min (fixed_page_elements h) (w.reader.count - p * fixed_page_elements h) ≡ entries = rw i.fixed.by.entries (sym are) in
            full grid n ∙ run_clamp (read grid n) _ _ _ _ ∙ rw (y, e.2, i.fixed.page_is) refl

        pub run_ends : (x : Refusal) → Run pos entries (p * w.page) (Err x) → Done (Err x)
        run_ends x c = λ grid n r.
            let es = read grid n in
            sym (run_refused es pos entries (p * w.page) x (sym (c grid n r)) total (left (p + 1) es)) ∙ ap (plus total) (sym (turn grid n)) ∙ i.rest grid n r

        module _ {m : ℕ} (c : Run pos entries (p * w.page) (Ok m)) where
          few : m ≤ entries
          few = reads_any w.reader le_prop (λ grid n r. count_few (read grid n) pos entries (p * w.page) m (c grid n r))

          pub total-fits : total + m ≤ h.num_elements
          unfolding page_entries
          total-fits = let x = few in let y = rw i.fixed.page_is at i.few in let z = page_before h p page_of_lem in omega arith

          pub page_counted : {next : Option Ahead} → TestedBy (fixed_page_test a) next → InPages (total + m) next (p + 1)
          unfolding page_entries
          page_counted t = record {
            fixed = i.fixed;
            few = let x = few in let y = i.few in let z = i.fixed.page_is in omega arith;
            ahead_is = t;
            rest = λ grid n r.
                let es = read grid n in
                sym (run_count es pos entries (p * w.page) m (sym (c grid n r)) total (left (p + 1) es)) ∙ ap (plus total) (sym (turn grid n)) ∙ i.rest grid n r;
          }
