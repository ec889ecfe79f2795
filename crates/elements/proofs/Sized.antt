-- An element by its tests, and its entry. Assumes nothing.
use Prim.Native.Nat.{ℕ, ◌+◌, ◌-◌, ◌^◌, ◌<◌, ◌≤◌}
use mathlib.Core.Path.{◌≡◌, refl, sym, ap, ◌∙◌}
use mathlib.Core.Bool.{Bool, true, false}
use mathlib.Core.List.{List}
use mathlib.Core.Logic.{⊎_elim}
use native.Mathlib.Omega.{arith}
use borrow.Author.Tests.{lt-ltb, le-ltb}
use Rattle.std.specs.Prelude.{Err, None, Ok, Option, Some}
use Rattle.refusal.specs.declared.Refusal.TheVariants.{Size, SizeField}
use Rattle.refusal.specs.declared.Refusal.{Refusal}
use Rattle.refusal.specs.Refusals.{figure, refuse, ◌then◌, Outcome}
use Rattle.refusal.proofs.Tests.{lt_or_ge, refuse_true}
use Rattle.refusal.specs.Outcome.{◌yields◌}
use Rattle.refusal.proofs.Outcomes.{value_is, refused_is, yields_passed, yields_refused}
use Rattle.fields.specs.LittleEndian.{le_at}
use Rattle.fields.specs.Fields.{undefined, address_at, undefined_at, size_test}
use Rattle.fields.specs.Values.{narrowed}
use Rattle.chunk_grid.specs.Grid.{offsets}
use Rattle.chunk_grid.specs.Values.{in_extent, offsets_of}
use Rattle.chunk_grid.proofs.Slots.{inside_passed, dropped_inv, refused_inv}
use Rattle.element_form.specs.Form.{filtered, size_bytes, element_size_test}
use Rattle.index.specs.Index.{Rec}
use Rattle.elements.specs.Elements.{Elements, chunk_bytes, undefined_element, size_at, mask_at, entry_at, entry_test, element}
use Rattle.elements.specs.Values.{found_of, recorded}

-- whether the address a at pos is undefined, as it is tested
pub tested : (file : List ℕ) (pos o a : ℕ) (b : Bool) → a ≡ address_at file pos o → b ≡ undefined o a → undefined_at file pos o ≡ b
unfolding undefined_at
tested file pos o a b e f = rw (← e) (sym f)

-- a number and its figure are refused alike, and where they aren't, they are the same
over_size : (n : ℕ) → 2 ^ 32 - 1 < n → size_test n ≡ Err (Size (figure n))
unfolding size_test
over_size n h = sym (refuse_true (Size (figure n)) _ (lt-ltb (2 ^ 32 - 1) n h))

pub figure_size : {A : Type 0} (n : ℕ) (after : ℕ → Outcome A) → size_test (figure n) yields after (figure n) ≡ size_test n yields after n
unfolding figure
figure_size {A} n after =
    ⊎_elim
    (λ (h : 2 ^ 32 - 1 < n).
    let e : figure (figure n) ≡ figure n = omega arith in
    yields_refused _ _ _ (over_size (figure n) (omega arith) ∙ ap (λ (x : ℕ). Err (Size x)) e)
    ∙ sym (yields_refused _ _ _ (over_size n h)))
    (λ (h : n ≤ 2 ^ 32 - 1). let e : figure n ≡ n = omega arith in ap (λ (x : ℕ). size_test x yields after x) e) (lt_or_ge (2 ^ 32 - 1) n)

-- an entry whose size is narrowed to 32 bits
module _ (address n mask : ℕ) (corner : List ℕ) where
  pub entry_narrow : (v : ℕ) → Ok v ≡ narrowed n
      → Ok (Some (record { address = address; size = v; mask = mask })) ≡ found_of (size_test n yields recorded corner (record { address = address; size = n; mask = mask }))
  unfolding narrowed found_of
  entry_narrow v e =
      let i = value_is (size_test n) n v e in
      ap (λ (x : ℕ). Ok (Some (record { address = address; size = x; mask = mask }))) i.1 ∙ sym (ap found_of (yields_passed _ _ (sym i.0)))

  pub entry_too_wide : (r : Refusal) → Err r ≡ narrowed n
      → Err r ≡ found_of (size_test n yields recorded corner (record { address = address; size = n; mask = mask }))
  unfolding narrowed found_of
  entry_too_wide r e = sym (ap found_of (yields_refused _ _ r (sym (refused_is (size_test n) n r e))))

module _ (es : Elements) (pos : ℕ) where
  -- the entry at pos, tested
  module _ (corner : List ℕ) where
    abbrev pub entry : Outcome (Option Rec)
    entry = entry_test es pos yields recorded corner (entry_at es pos)

    -- unfiltered, behind the address a
    pub entry_plain : filtered es.form ≡ false → (a n : ℕ) → a ≡ address_at es.file pos es.form.offset_size
        → n ≡ figure (chunk_bytes es.grid es.element_bytes) → size_test n yields recorded corner (record { address = a; size = n; mask = 0 }) ≡ entry
    unfolding entry_test entry_at size_at mask_at refuse ◌then◌
    entry_plain p a n e f =
        rw (p, e, f)
        (figure_size (chunk_bytes es.grid es.element_bytes) (λ (x : ℕ). recorded corner (record { address = address_at es.file pos es.form.offset_size; size = x; mask = 0 })))

    -- filtered, the size in w bytes
    module _ (p : filtered es.form ≡ true) (w : ℕ) (width : w ≡ size_bytes es.form) where
      pub entry_wide : 8 < w → Err SizeField ≡ entry
      unfolding entry_test refuse ◌then◌ ◌yields◌
      entry_wide l = rw (p, ← width, lt-ltb 8 w l) refl

      pub entry_filtered : w ≤ 8 → (a n m : ℕ) → a ≡ address_at es.file pos es.form.offset_size
          → n ≡ le_at es.file (pos + es.form.offset_size) w → m ≡ le_at es.file (pos + es.form.offset_size + w) 4
          → size_test n yields recorded corner (record { address = a; size = n; mask = m }) ≡ entry
      unfolding entry_test entry_at size_at mask_at refuse ◌then◌
      entry_filtered l a n m d e f = rw (p, ← width, le-ltb 8 w l, d, e, f) refl

  -- the element of slot s at pos, by the test of its size, ..
  module _ (s : ℕ) where
    pub element_refused : (x : Refusal) → element_size_test es.form ≡ Err x → element es pos s ≡ Err x
    unfolding element
    element_refused x t = yields_refused _ _ x t

    -- .. by its address, ..
    module _ (t : element_size_test es.form ≡ Ok tt) where
      pub element-undefined : undefined_element es pos ≡ true → element es pos s ≡ Ok None
      unfolding element
      element-undefined u = yields_passed _ _ t ∙ rw u refl

      -- .. and by its slot's offsets
      module _ (u : undefined_element es pos ≡ false) where
        pub element_unnumbered : (r : Refusal) → offsets_of (in_extent es.grid s) ≡ Err r → element es pos s ≡ Err r
        unfolding element
        element_unnumbered r o = yields_passed _ _ t ∙ rw u (yields_refused _ _ r (refused_inv _ s r o))

        pub element_dropped : offsets_of (in_extent es.grid s) ≡ Ok false → element es pos s ≡ Ok None
        unfolding element
        element_dropped o = let i = dropped_inv _ s o in yields_passed _ _ t ∙ rw u (yields_passed _ _ i.0 ∙ rw i.1 refl)

        pub element_inside : offsets_of (in_extent es.grid s) ≡ Ok true → element es pos s ≡ entry (offsets es.grid s)
        unfolding element
        element_inside o = let i = inside_passed _ s o in yields_passed _ _ t ∙ rw u (yields_passed _ _ i.0 ∙ rw i.1 refl)
