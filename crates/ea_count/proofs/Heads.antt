-- The walk's way in, its inline elements, and an offset size that isn't a width. Assumes nothing.
use Prim.Native.Nat.{ℕ, ◌+◌, ◌*◌, ◌-◌, ◌<◌, ◌≤◌, min}
use mathlib.Core.Path.{◌≡◌, refl, sym, ap, ◌∙◌}
use mathlib.Core.Bool.{false}
use mathlib.Core.List.{[]}
use mathlib.Core.Logic.{⊎_elim}
use native.Mathlib.Omega.{arith}
use borrow.Author.Tests.{le-leb, lt-leb}
use lib.ListN.{length}
use Rattle.std.specs.Prelude.{Err, Ok}
use Rattle.refusal.specs.declared.Refusal.TheVariants.{OffsetSize}
use Rattle.refusal.specs.declared.Refusal.{Refusal}
use Rattle.refusal.specs.Refusals.{refuse, Checked, Outcome}
use Rattle.refusal.specs.Outcome.{◌yields◌}
use Rattle.refusal.specs.Values.{plus, counted_of}
use Rattle.refusal.proofs.Tests.{lt_or_ge, false_true}
use Rattle.refusal.proofs.Counts.{plus_zero}
use Rattle.fields.specs.Fields.{is_width, width_test, offset_size_test}
use Rattle.element_form.specs.declared.Form.{Form}
use Rattle.element_form.specs.Form.{element_size_test}
use Rattle.element_form.proofs.Forms.{sized_width}
use Rattle.elements.specs.Elements.{Elements}
use Rattle.elements.specs.Runs.{elements_from}
use Rattle.elements.proofs.Runs.{run_count, run_refused}
use Rattle.elements.proofs.Turns.{left_none, left_refused}
use Rattle.ea_geometry.specs.Sizes.{super_blocks}
use Rattle.ea_geometry.specs.Extents.{element_stride, element_at, inline_element_at}
use Rattle.ea_geometry.specs.Slots.{first_slot}
use Rattle.ea_geometry.proofs.Places.{first_slot_zero}
use Rattle.ea_blocks.specs.Array.{Array}
use Rattle.ea_blocks.specs.Structures.{index_block, test_of, array_test}
use Rattle.ea_blocks.proofs.StructureTests.{inline_inside}
use Rattle.ea_walk.specs.Walk.{supers_from, behind_inline, from_inline, walk}
use Rattle.ea_walk.proofs.Turns.{supers_past}

-- a test of the size of elements refuses an offset size that isn't a width
pub size_refused : (f : Form) → is_width f.offset_size ≡ false → (r : Refusal) × (element_size_test f ≡ Err r)
size_refused f w = go (element_size_test f) refl
  where
    go : (t : Checked) → element_size_test f ≡ t → (r : Refusal) × (element_size_test f ≡ Err r)
    go (Ok u) e = absurd (false_true (sym w ∙ sized_width f e))
    go (Err r) e = (r, e)

pub never_sized : (f : Form) → is_width f.offset_size ≡ false → element_size_test f ≡ Ok tt → ⊥
never_sized f w t = false_true (sym w ∙ sized_width f t)

module _ (a : Array) (e : Elements) where
  abbrev inline : ℕ
  inline = a.parameters.idx_blk_elmts

  abbrev first : ℕ
  first = a.index_at + inline_element_at a.parameters a.offset_size 0

  pub walk_refused : (r : Refusal) → array_test a ≡ Err r → Err r ≡ counted_of (walk a e)
  unfolding walk ◌yields◌ counted_of
  walk_refused r t = rw t refl

  pub walk_passed : array_test a ≡ Ok tt → counted_of (from_inline a e) ≡ counted_of (walk a e)
  unfolding walk ◌yields◌
  walk_passed t = rw t refl

  behind_ended : e.count ≤ inline → behind_inline a e ≡ Ok []
  unfolding behind_inline
  behind_ended le = rw (le-leb e.count inline le) refl

  -- where the offset size isn't a width
  pub unreadable_none : e.count ≡ 0 → Ok 0 ≡ counted_of (from_inline a e)
  unfolding counted_of
  unreadable_none z =
      let n : 0 ≡ min inline (e.count - 0) = omega arith in
      sym (ap counted_of (left_none e first inline 0 0 (behind_inline a e) n refl ∙ behind_ended (omega arith)))

  module _ (some : 0 < e.count) where
    pub unreadable_pointer : is_width a.offset_size ≡ false → inline ≡ 0 → Err (OffsetSize a.offset_size) ≡ counted_of (from_inline a e)
    unfolding elements_from behind_inline width_test refuse ◌yields◌ counted_of
    unreadable_pointer w z = rw (z, lt-leb e.count 0 some, w) refl

    pub unreadable_element : (r : Refusal) → element_size_test e.form ≡ Err r → 0 < inline → Err r ≡ counted_of (from_inline a e)
    unfolding counted_of
    unreadable_element r t k =
        sym (ap counted_of (left_refused e first inline 0 (min inline (e.count - 0)) (behind_inline a e) refl (omega arith) r t))

  -- the inline elements, and what is behind them
  pub inline_refused : (r : Refusal) → Err r ≡ counted_of (elements_from e first inline 0 (Ok [])) → Err r ≡ counted_of (from_inline a e)
  inline_refused r c = sym (run_refused e first inline 0 r (sym c) 0 (behind_inline a e)) ∙ plus_zero (from_inline a e)

  module _ (m : ℕ) (c : Ok m ≡ counted_of (elements_from e first inline 0 (Ok []))) where
    counted : plus m (behind_inline a e) ≡ counted_of (from_inline a e)
    counted =
        ap (λ (n : ℕ). plus n (behind_inline a e)) (let z : m ≡ 0 + m = omega arith in z)
        ∙ sym (run_count e first inline 0 m (sym c) 0 (behind_inline a e)) ∙ plus_zero (from_inline a e)

    behind_is : offset_size_test a.offset_size ≡ Ok tt → supers_from a e (super_blocks a.parameters) 0 inline (Ok []) ≡ behind_inline a e
    unfolding behind_inline ◌yields◌
    behind_is t =
        ⊎_elim (λ (lt : inline < e.count). rw (lt-leb e.count inline lt, t) refl)
        (λ (le : e.count ≤ inline). rw (le-leb e.count inline le) (supers_past a e _ 0 inline (Ok []) le)) (lt_or_ge inline e.count)

    pub inline_counted : offset_size_test a.offset_size ≡ Ok tt → (n : ℕ) → n ≡ super_blocks a.parameters → {x : Outcome ℕ}
        → x ≡ plus m (supers_from a e (n - 0) 0 (first_slot a.parameters 0) (Ok [])) → x ≡ counted_of (from_inline a e)
    inline_counted t n d k =
        k ∙ ap (λ (y : ℕ). plus m (supers_from a e y 0 (first_slot a.parameters 0) (Ok []))) (let z : n - 0 ≡ super_blocks a.parameters = omega arith in z)
        ∙ ap (λ (s : ℕ). plus m (supers_from a e (super_blocks a.parameters) 0 s (Ok []))) (first_slot_zero a.parameters)
        ∙ ap (plus m) (behind_is t) ∙ counted

-- the inline elements lie in the file
pub inline_room : (a : Array) (pos : ℕ) → test_of a index_block ≡ Ok tt → pos ≡ a.index_at + inline_element_at a.parameters a.offset_size 0
    → pos + a.parameters.idx_blk_elmts * element_stride a.parameters a.offset_size ≤ length a.file
unfolding inline_element_at element_at
inline_room a pos t p = let i = inline_inside a t in rw p (omega arith)
