-- What an element that isn't refused says of its slot. Assumes nothing.
use Prim.Native.Nat.{ℕ}
use mathlib.Core.Path.{◌≡◌, refl, ap, ◌∙◌}
use mathlib.Core.Bool.{Bool, false, not, cond}
use mathlib.Core.List.{List}
use borrow.Author.Tests.{not-true, not-false}
use Rattle.std.specs.Prelude.{Err, None, Ok, Option, Some, true}
use Rattle.refusal.specs.Refusals.{Checked, Outcome}
use Rattle.refusal.specs.Outcome.{◌yields◌}
use Rattle.refusal.proofs.Tests.{by_cond, then_inv, refuse_inv}
use Rattle.refusal.proofs.Outcomes.{never, yields_inv, yields_passed}
use Rattle.chunk_grid.specs.Grid.{offsets, offsets_test, below}
use Rattle.chunk_grid.specs.Values.{in_extent, offsets_of}
use Rattle.chunk_grid.specs.Chunks.{chunk_at}
use Rattle.chunk_grid.proofs.Slots.{passed_inside}
use Rattle.element_form.specs.Form.{element_size_test}
use Rattle.index.specs.declared.Entry.{Entry}
use Rattle.index.proofs.Records.{none_some}
use Rattle.index.specs.Index.{Rec, Listing}
use Rattle.index.specs.SlotRecords.{record_of}
use Rattle.elements.specs.Elements.{Elements, undefined_element, entry_at, entry_test, element}
use Rattle.elements.specs.Runs.{also_element}
use Rattle.elements.specs.Values.{found_of}
use Rattle.elements.proofs.Answers.{found_chunk}
use Rattle.elements.proofs.Sized.{element_inside}

pub some_is : (x y : Option Rec) → ◌≡◌ {A = Outcome (Option Rec)} (Ok x) (Ok y) → x ≡ y
some_is x y h = cc

-- the record of slot s, whose element is at pos
abbrev pub record_here : Elements → ℕ → ℕ → Rec
record_here es pos s = record { entry = entry_at es pos; corner = offsets es.grid s }

abbrev inside : Elements → ℕ → Bool
inside es s = below (offsets es.grid s) es.grid.present

-- an element that isn't refused gives the record of its slot
pub element_record : (es : Elements) (pos s : ℕ) (x : Option Rec) → element es pos s ≡ Ok x
    → record_of (cond (undefined_element es pos) None (Some (entry_at es pos))) (chunk_at es.grid s) ≡ x
unfolding element record_of chunk_at offsets_test
element_record es pos s x h =
    by_cond P (undefined_element es pos)
    (λ e k. rw e (some_is None x k))
    (λ e k.
    let i = yields_inv _ _ x k in
    let n = refuse_inv _ _ (then_inv _ _ i.0).0 in
    by_cond P (not (inside es s))
    (λ b m. rw (e, n, not-true (inside es s) b) (some_is None x m))
    (λ b m. rw (e, n, not-false (inside es s) b) (some_is _ x (yields_inv _ _ x m).1)) i.1)
    (yields_inv _ _ x h).1
  where
    P : Outcome (Option Rec) → Type 0
    P a = a ≡ Ok x → record_of (cond (undefined_element es pos) None (Some (entry_at es pos))) (chunk_at es.grid s) ≡ x

-- an element that isn't refused has passed the test of its size; one that holds a chunk lies in the extents
yields_listed : (t : Checked) (e : Outcome (Option Rec)) (a : Listing) (l : List Rec) → also_element (t yields e) a ≡ Ok l → t ≡ Ok tt
unfolding ◌yields◌ also_element
yields_listed (Ok tt) e a l h = refl
yields_listed (Err r) e a l h = absurd (never r l h)

module _ (es : Elements) (pos s : ℕ) where
  pub element-sized : (a : Listing) (l : List Rec) → also_element (element es pos s) a ≡ Ok l → element_size_test es.form ≡ Ok tt
  unfolding element
  element-sized a l h = yields_listed _ _ a l h

  -- what an element that holds a chunk has passed, and what it holds
  pub chunk_inv : (x : Rec) → element es pos s ≡ Ok (Some x)
      → (element_size_test es.form ≡ Ok tt) × (offsets_of (in_extent es.grid s) ≡ Ok true) × (entry_test es pos ≡ Ok tt) × (x ≡ record_here es pos s)
  unfolding element
  chunk_inv x h =
      let g = yields_inv _ _ _ h in
      by_cond P (undefined_element es pos) (λ u k. absurd (none_some x (some_is None _ k)))
      (λ u k.
      let o = yields_inv _ _ _ k in
      by_cond P (not (inside es s)) (λ b m. absurd (none_some x (some_is None _ m)))
      (λ b m.
      let e = yields_inv _ _ _ m in
      (g.0, passed_inside _ s o.0 (not-false (inside es s) b), e.0, cc)) o.1)
      g.1
    where
      P : Outcome (Option Rec) → Type 0
      P a = a ≡ Ok (Some x)
          → (element_size_test es.form ≡ Ok tt) × (offsets_of (in_extent es.grid s) ≡ Ok true) × (entry_test es pos ≡ Ok tt) × (x ≡ record_here es pos s)

  -- and back
  pub chunk_here : element_size_test es.form ≡ Ok tt → offsets_of (in_extent es.grid s) ≡ Ok true → undefined_element es pos ≡ false → entry_test es pos ≡ Ok tt
      → element es pos s ≡ Ok (Some (record_here es pos s))
  chunk_here t i u e = element_inside es pos s t u i ∙ yields_passed _ _ e

  -- a chunk that is found, with its corner
  pub chunk_found : (x : Entry) → found_of (element es pos s) ≡ Ok (Some x) → element es pos s ≡ Ok (Some (record { entry = x; corner = offsets es.grid s }))
  chunk_found x h =
      let c = found_chunk _ x h in
      let i = chunk_inv c.0 c.1 in
      c.1 ∙ ap (λ (r : Rec). Ok (Some r)) (let z : c.0 ≡ record { entry = x; corner = offsets es.grid s } = cc in z)
