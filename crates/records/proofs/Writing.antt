-- The loops that write a run: what is written, and the records that are left stored behind it, make the whole.
-- Assumes nothing.
use Prim.Native.Nat.{ℕ, ◌+◌, ◌-◌, ◌*◌, ◌<◌, ◌≤◌}
use mathlib.Core.Path.{◌≡◌, refl, sym, ap, ◌∙◌}
use mathlib.Core.List.{List, [], ◌∷◌, ◌++◌}
use native.Mathlib.Omega.{arith}
use lib.ListN.{length, length-append}
use lib.Seq.{sets, length-sets}
use Rattle.std.specs.Prelude.{Err, None, Ok, Option, Some}
use Rattle.refusal.specs.Refusals.{Outcome}
use Rattle.refusal.specs.declared.Refusal.{Refusal}
use Rattle.refusal.proofs.Outcomes.{never, also_inv}
use Rattle.chunk_grid.specs.Grid.{offsets}
use Rattle.element_form.specs.Form.{stride, element_size_test}
use Rattle.index.specs.declared.Entry.{Entry}
use Rattle.index.specs.Index.{Rec, Listing}
use Rattle.elements.specs.Elements.{Elements, element}
use Rattle.elements.specs.Runs.{also_element, elements_from}
use Rattle.elements.specs.Values.{found_of}
use Rattle.elements.proofs.Elements.{element-sized, chunk_found}
use Rattle.elements.proofs.Runs.{run_split, run_first, run_part}
use Rattle.records.specs.Records.{record_length, record_bytes, list_bytes}
use Rattle.records.proofs.Records.{sets_append, length_record, list_append}

-- in front of an accepted listing an element that holds no chunk changes nothing
other_inv : (e : Outcome (Option Rec)) (a : Listing) (l : List Rec) → also_element e a ≡ Ok l → ((x : Entry) → found_of e ≡ Ok (Some x) → ⊥) → a ≡ Ok l
unfolding also_element found_of
other_inv (Ok None) a l h not = h
other_inv (Ok (Some x)) a l h not = absurd (not x.entry refl)
other_inv (Err r) a l h not = absurd (never r l h)

-- `left` elements are left, from `from` and slot `here` on, and their records, stored at `to`, make W, which ends at
-- `end`
pub record Left (es : Elements) (from left here : ℕ) (out : List ℕ) (to : ℕ) (W : List ℕ) (end : ℕ) : Type 0 where
  pub records : List Rec
  pub is : elements_from es from left here (Ok []) ≡ Ok records
  pub makes : sets out to (list_bytes records) ≡ W
  pub ends : to + length (list_bytes records) ≡ end

-- none is passed, and the records l go from `at` on
abbrev pub LeftOf : Elements → List ℕ → ℕ → List Rec → ℕ → ℕ → ℕ → List ℕ → ℕ → Type 0
LeftOf es out₀ at l from left here out to = Left es from left here out to (sets out₀ at (list_bytes l)) (at + length (list_bytes l))

pub left_first : {es : Elements} {n slot pos : ℕ} {out : List ℕ} {at : ℕ} {l : List Rec} → elements_from es pos n slot (Ok []) ≡ Ok l
    → LeftOf es out at l pos n slot out at
left_first {l = l} h = record { records = l; is = h; makes = refl; ends = refl }

pub left_length : (es : Elements) (out₀ : List ℕ) (at : ℕ) (l : List Rec) (from left here : ℕ) (out : List ℕ) (to : ℕ) → LeftOf es out₀ at l from left here out to
    → length out ≡ length out₀
left_length es out₀ at l from left here out to w = sym (length-sets out to (list_bytes w.records)) ∙ ap length w.makes ∙ length-sets out₀ at (list_bytes l)

module _ {es : Elements} {from left here : ℕ} {out : List ℕ} {to : ℕ} {W : List ℕ} {end : ℕ} (w : Left es from left here out to W end) where
  pub left_done : left ≤ 0 → (out ≡ W) × (to ≡ end)
  unfolding list_bytes elements_from
  left_done k =
      let z : left ≡ 0 = omega arith in
      let is = w.is in
      let q : ◌≡◌ {A = Listing} (Ok []) (Ok w.records) = rw z at is in
      let e : w.records ≡ [] = cc in
      let m = w.makes in
      let f = w.ends in
      (rw e at m, omega (arith, ap (λ (x : List Rec). length (list_bytes x)) e))

  pub left_same : {out' : List ℕ} → out' ≡ out → {to' : ℕ} → to' ≡ to → Left es from left here out' to' W end
  left_same e f = rw (e, f) w

  -- none of them is refused
  pub left_accepted : (r : Refusal) → elements_from es from left here (Ok []) ≡ Err r → ⊥
  left_accepted r e = never r w.records (sym e ∙ w.is)

  -- behind m more elements, whose records are stored
  module _ (m : ℕ) (h : m ≤ left) where
    abbrev parted : (l₁ : List Rec) × (l₂ : List Rec) × (elements_from es from m here (Ok []) ≡ Ok l₁)
        × (elements_from es (from + m * stride es.form) (left - m) (here + m) (Ok []) ≡ Ok l₂) × (w.records ≡ l₁ ++ l₂)
    parted =
        let e : m + (left - m) ≡ left = omega arith in
        let p = ap (λ (j : ℕ). elements_from es from j here (Ok [])) e in
        run_split es from m here _ w.records (sym (run_part es from m (left - m) here (Ok [])) ∙ p ∙ w.is)

    abbrev pub part : List Rec
    part = parted.0

    pub part_is : elements_from es from m here (Ok []) ≡ Ok part
    part_is = parted.2

    ends_behind : to + length (list_bytes part) + length (list_bytes parted.1) ≡ end
    ends_behind =
        let e = ap (λ (x : List Rec). length (list_bytes x)) parted.4 ∙ ap length (list_append part parted.1) ∙ length-append (list_bytes part) (list_bytes parted.1) in
        omega (arith, w.ends, e)

    pub part_fits : to + length (list_bytes part) ≤ end
    part_fits = omega (arith, ends_behind)

    pub left_behind : Left es (from + m * stride es.form) (left - m) (here + m) (sets out to (list_bytes part)) (to + length (list_bytes part)) W end
    left_behind =
        let e : sets out to (list_bytes part ++ list_bytes parted.1) ≡ W = rw (← list_append part parted.1, ← parted.4) w.makes in
        record { records = parted.1; is = parted.3; makes = sym (sets_append out to (list_bytes part) (list_bytes parted.1)) ∙ e; ends = ends_behind }

    -- .. and none is, where they hold no chunk
    pub left_gap : elements_from es from m here (Ok []) ≡ Ok [] → Left es (from + m * stride es.form) (left - m) (here + m) out to W end
    unfolding list_bytes
    left_gap n =
        let q : ◌≡◌ {A = Listing} (Ok []) (Ok part) = sym n ∙ part_is in
        let e : part ≡ [] = cc in
        let z : to + 0 ≡ to = omega arith in
        let b = left_behind in
        rw (e, z) at b

  -- the element that is next, and what is left behind it
  module _ (k : 0 < left) (b : here < es.count) where
    next : also_element (element es from here) (elements_from es (from + stride es.form) (left - 1) (here + 1) (Ok []))
        ≡ Ok w.records
    next = sym (run_first es from left here (Ok []) k b) ∙ w.is

    -- its size has passed its test
    pub left_sized : element_size_test es.form ≡ Ok tt
    left_sized = element-sized es from here _ _ next

    -- no chunk: nothing is written
    pub left_other : ((x : Entry) → found_of (element es from here) ≡ Ok (Some x) → ⊥) → Left es (from + stride es.form) (left - 1) (here + 1) out to W end
    left_other not = record { records = w.records; is = other_inv _ _ _ next not; makes = w.makes; ends = w.ends }

    -- a chunk: its record is written
    module _ {x : Entry} (f : found_of (element es from here) ≡ Ok (Some x)) {corner : List ℕ} (g : corner ≡ offsets es.grid here) {rank : ℕ} (e : length corner ≡ rank) where
      abbrev written : Rec
      written = record { entry = x; corner = corner }

      written_length : length (record_bytes written) ≡ record_length rank
      written_length = length_record written ∙ ap record_length e

      chunk_next : (m : List Rec) × (elements_from es (from + stride es.form) (left - 1) (here + 1) (Ok []) ≡ Ok m) × (w.records ≡ written ∷ m)
      unfolding also_element
      chunk_next = also_inv _ _ _ (rw (chunk_found es from here x f, ← g) at next)

      lengths : to + record_length rank + length (list_bytes chunk_next.0) ≡ end
      unfolding list_bytes
      lengths =
          let e = ap (λ (m : List Rec). length (list_bytes m)) chunk_next.2 ∙ length-append (record_bytes written) (list_bytes chunk_next.0) in
          omega (arith, w.ends, e, written_length)

      pub left_fits : to + record_length rank ≤ end
      left_fits = omega (arith, lengths)

      chunk_makes : sets (sets out to (record_bytes written)) (to + record_length rank) (list_bytes chunk_next.0) ≡ W
      unfolding list_bytes
      chunk_makes =
          let m = w.makes in
          rw (← written_length, ← sets_append out to (record_bytes written) (list_bytes chunk_next.0)) (rw chunk_next.2 at m)

      pub left_chunk : Left es (from + stride es.form) (left - 1) (here + 1) (sets out to (record_bytes written)) (to + record_length rank) W end
      left_chunk = record { records = chunk_next.0; is = chunk_next.1; makes = chunk_makes; ends = lengths }

-- element i of a run is passed
pub left_next : {es : Elements} (pos n s i : ℕ) {out : List ℕ} {to : ℕ} {W : List ℕ} {end : ℕ}
    → Left es (pos + i * stride es.form + stride es.form) (n - i - 1) (s + i + 1) out to W end
    → Left es (pos + (i + 1) * stride es.form) (n - (i + 1)) (s + (i + 1)) out to W end
left_next {es = es} pos n s i w =
    let e : pos + i * stride es.form + stride es.form ≡ pos + (i + 1) * stride es.form = omega arith in
    let f : n - i - 1 ≡ n - (i + 1) = omega arith in
    let g : s + i + 1 ≡ s + (i + 1) = omega arith in
    rw (e, f, g) at w
