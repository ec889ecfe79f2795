-- `ea_index::runs::run_of` meets its contract. Assumes nothing.
use Prim.Native.Nat.{◌+◌, ◌-◌}
use mathlib.Core.Path.{◌≡◌, refl, sym, ap, subst, ◌∙◌}
use mathlib.Core.Logic.{⊎_elim}
use native.Mathlib.Omega.{arith}
use Rattle.std.specs.Prelude.{ℕ}
use Rattle.refusal.specs.Refusals.{largest64}
use Rattle.located.specs.declared.Run.{Run}
use Rattle.located.specs.declared.Run.TheVariants.{Gap, Elements as Present}
use Rattle.ea_geometry.specs.declared.Place.{Place}
use Rattle.ea_geometry.specs.declared.Place.TheVariants.{Inline, Block, Page}
use Rattle.ea_geometry.specs.Extents.{inline_element_at}
use Rattle.ea_geometry.specs.Place.{place}
use Rattle.ea_geometry.specs.Slots.{PlaceOf}
use Rattle.ea_geometry.proofs.Places.{place_of_lem}
use Rattle.ea_blocks.specs.Array.{Array}
use Rattle.ea_blocks.specs.Values.{array_in}
use Rattle.ea_index.specs.Values.{RunIn, slots_of, run_slots}
use Rattle.ea_index.proofs.SlotRuns.{run_room, inline_run, nowhere_run}
use Rattle.ea_index.proofs.runs.run_of.Goals.{After-place_of, In-Block}
use Rattle.ea_index.proofs.runs.run_of.Goals as goal

-- the place that was found is the slot's
placed : (c : After-place_of) {p : Place} → c.place_of.result ≡ p
    → PlaceOf c.args.array.array.extents.sizes.parameters c.args.slot p
placed c e =
    subst (PlaceOf _ _) (sym c.place_of.ensures ∙ e) (place_of_lem _ c.args.array.array.extents.sizes.served _)

-- what the function ensures, by that place
abbrev Runs : Array → ℕ → Run → Type 0
Runs a s r = RunIn a s r × (slots_of r ≡ run_slots a s (place a.parameters s))

by_place : (c : After-place_of) (r : Run) {p : Place} → c.place_of.result ≡ p
    → RunIn (array_in c.args.array.array) c.args.slot r
    → slots_of r ≡ run_slots (array_in c.args.array.array) c.args.slot p
    → Runs (array_in c.args.array.array) c.args.slot r
by_place c r e run slots = (run, slots ∙ ap (run_slots _ _) (sym e ∙ c.place_of.ensures))

-- an inline slot
pub inline_element_at-requires : goal.inline_element_at-requires
unfolding PlaceOf
inline_element_at-requires c = omega (arith, placed (goal.at.inline_element_at-requires c).After-place_of c.in-Inline.is)

pub overflow_add-result : goal.overflow_add-result
unfolding PlaceOf
overflow_add-result c =
    let q = placed (goal.at.overflow_add-result c).After-place_of c.in-Inline.is in
    let x = run_room _ _ _ _ (inline_run c.args.array c.args.slot (omega (arith, q))) in
    rw (c.inline_element_at.ensures, sym q.0) (omega arith)

pub overflow_sub-result : goal.overflow_sub-result
unfolding PlaceOf
overflow_sub-result c = omega (arith, placed (goal.at.overflow_sub-result c).After-place_of c.in-Inline.is)

pub returns-in-Inline : goal.returns-in-Inline
unfolding PlaceOf slots_of run_slots
returns-in-Inline c =
    let p = (goal.at.returns-in-Inline c).After-place_of in
    let q = placed p c.in-Inline.is in
    let b = c.args.array in
    let h = b.array.extents.sizes.parameters in
    let s = c.args.slot in
    let pos = b.array.index_at + inline_element_at h b.array.extents.offset_size s in
    rw (c.inline_element_at.ensures, sym q.0)
    (by_place p (Present pos (h.idx_blk_elmts - s)) (c.in-Inline.is ∙ ap Inline (sym q.0)) (inline_run b s (omega (arith, q))) refl)

-- a slot in a data block
pub invariant_of-slot : goal.invariant_of-slot
unfolding PlaceOf
invariant_of-slot c =
    let p = (goal.at.invariant_of-slot c).After-place_of in
    let b = c.in-Block in
    record {
      within = ⊎_elim (λ e. (placed p {p = Block b.u b.k b.i} e).0) (λ e. (placed p {p = Page b.u b.k b.i e.0 e.1} e.2).0) b.is;
    }

pub returns-in-Block : goal.returns-in-Block
unfolding run_slots
returns-in-Block c =
    let p = (goal.at.returns-in-Block c).After-place_of in
    let b = c.in-Block in
    ⊎_elim (λ e. by_place p _ {p = Block b.u b.k b.i} e c.run.ensures.0 c.run.ensures.1)
    (λ e. by_place p _ {p = Page b.u b.k b.i e.0 e.1} e.2 c.run.ensures.0 c.run.ensures.1) b.is

pub returns-in-Nowhere : goal.returns-in-Nowhere
unfolding PlaceOf slots_of run_slots
returns-in-Nowhere c =
    let p = (goal.at.returns-in-Nowhere c).After-place_of in
    by_place p (Gap largest64) c.in-Nowhere.is (nowhere_run c.args.array _ _ (omega arith) (placed p c.in-Nowhere.is)) refl
