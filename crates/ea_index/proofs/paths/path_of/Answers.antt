-- `ea_index::paths::path_of` meets its contract. Assumes nothing.
use mathlib.Core.Path.{◌≡◌, sym, subst, ◌∙◌}
use mathlib.Core.Logic.{⊎_elim}
use native.Mathlib.Omega.{arith}
use Rattle.std.proofs.Common.{rules}
use Rattle.std.specs.Prelude.{Err}
use Rattle.refusal.specs.Refusals.{Checked}
use Rattle.fields.proofs.Fields.{width_is}
use Rattle.fields.proofs.Widths.{width_le}
use Rattle.element_form.specs.Form.{element_size_test}
use Rattle.element_form.proofs.Forms.{sized_width}
use Rattle.ea_header.specs.Values.{Served}
use Rattle.ea_geometry.specs.declared.Place.{Place}
use Rattle.ea_geometry.specs.declared.Place.TheVariants.{Block, Page}
use Rattle.ea_geometry.specs.Extents.{form_of}
use Rattle.ea_geometry.specs.Slots.{InBlock, PlaceOf}
use Rattle.ea_geometry.proofs.Places.{place_of_lem}
use Rattle.ea_blocks.specs.Array.{Array}
use Rattle.ea_blocks.specs.Values.{array_of}
use Rattle.ea_blocks.proofs.StructureTests.{array_passed, index_in_file}
use Rattle.ea_walk.proofs.Paths.{no_place}
use Rattle.walked_index.proofs.PathEnds.{ends_nowhere}
use Rattle.ea_index.specs.Values.{ArrayEnds}
use Rattle.ea_index.proofs.PathEnds.{narrow_ends, inline_room, inline_ends, unsized_ends}
use Rattle.ea_index.proofs.paths.path_of.Goals.{After-place_of, After-test, In-Block, Start}
use Rattle.ea_index.proofs.paths.path_of.Goals as goal

served : (c : Start) → Served c.args.array.geometry.parameters
served c = (array_passed (array_of c.args.file.now c.args.array) c.requires).0

pub invariant_of-sizes : goal.invariant_of-sizes
invariant_of-sizes c = record { served = served (goal.at.invariant_of-sizes c).Start }

-- the place that was found is the slot's
placed : (c : After-place_of) {p : Place} → c.place_of.result ≡ p
    → PlaceOf c.args.array.geometry.parameters c.args.slot p
placed c e = subst (PlaceOf _ _) (sym c.place_of.ensures ∙ e) (place_of_lem _ (served (goal.at.After-place_of c).Start) _)

-- an inline slot: the test of the size of elements
sized : (c : After-test) {t : Checked} → c.test.result ≡ t
    → let g = c.args.array.geometry in
    element_size_test (form_of g.parameters g.offset_size) ≡ t
sized c e = rw (← c.form.ensures) (sym c.test.ensures ∙ e)

pub returns-in_err-test-in-Inline : goal.returns-in_err-test-in-Inline
unfolding PlaceOf
returns-in_err-test-in-Inline c =
    let at = goal.at.returns-in_err-test-in-Inline c in
    let q = placed at.After-place_of c.in-Inline.is in
    let h : ArrayEnds (array_of c.args.file.now c.args.array) c.args.slot (Err c.in_err-test-in-Inline.field-0.0) =
    rw q.0 (unsized_ends _ c.requires _ q.1 _ (sized at.After-test c.in_err-test-in-Inline.was)) in
    search rules

pub invariant_of-extents : goal.invariant_of-extents
invariant_of-extents c =
    record { legal = width_le _ (sized_width _ (sized (goal.at.invariant_of-extents c).After-test c.in_ok-test-in-Inline.was)) }

pub inline_element_at-requires : goal.inline_element_at-requires
unfolding PlaceOf
inline_element_at-requires c = omega (arith, placed (goal.at.inline_element_at-requires c).After-place_of c.in-Inline.is)

pub overflow_add-result : goal.overflow_add-result
unfolding PlaceOf
overflow_add-result c =
    let x = inline_room _ c.requires _ (placed (goal.at.overflow_add-result c).After-place_of c.in-Inline.is).1 in
    rw c.inline_element_at.ensures (omega arith)

pub returns-in_ok-test-in-Inline : goal.returns-in_ok-test-in-Inline
unfolding PlaceOf
returns-in_ok-test-in-Inline c =
    let q = placed (goal.at.returns-in_ok-test-in-Inline c).After-place_of c.in-Inline.is in
    rw (c.inline_element_at.ensures, q.0) (inline_ends _ c.requires _ q.1)

-- a slot in a data block
within : (c : In-Block)
    → let a = c.args in
    InBlock a.array.geometry.parameters a.slot c.in-Block.u c.in-Block.k c.in-Block.i
unfolding PlaceOf
within c =
    let p = (goal.at.In-Block c).After-place_of in
    let b = c.in-Block in
    ⊎_elim (λ e. (placed p {p = Block b.u b.k b.i} e).0)
    (λ e. (placed p {p = Page b.u b.k b.i e.0 e.1} e.2).0) b.is

pub returns-in_err-ensure_offset_size-in-Block : goal.returns-in_err-ensure_offset_size-in-Block
returns-in_err-ensure_offset_size-in-Block c =
    let at = goal.at.returns-in_err-ensure_offset_size-in-Block c in
    let h = narrow_ends (array_of c.args.file.now c.args.array) (served at.Start) _ _ _ _ (within at.In-Block) _ (sym c.ensure_offset_size.ensures ∙ c.in_err-ensure_offset_size-in-Block.was) in
    search rules

pub in_file-array-requires : goal.in_file-array-requires
in_file-array-requires c =
    let t = array_passed (array_of c.args.file.now c.args.array) c.requires in
    index_in_file _ _ t.0 (width_is _ _ (sym c.ensure_offset_size.ensures ∙ c.in_ok-ensure_offset_size-in-Block.was)) t.1

pub invariant_of-slot : goal.invariant_of-slot
invariant_of-slot c = record {
  within = subst (λ (a : Array). InBlock a.parameters c.args.slot c.in-Block.u c.in-Block.k c.in-Block.i) (sym c.in_file-array.ensures)
      (within (goal.at.invariant_of-slot c).In-Block);
}

pub returns-in-Nowhere : goal.returns-in-Nowhere
returns-in-Nowhere c = ends_nowhere (λ e. no_place _ e _ (sym c.place_of.ensures ∙ c.in-Nowhere.is))
