-- The walk of an index into a lent list: what is answered. Assumes nothing.
use Prim.Native.Nat.{ℕ, ◌/◌, ◌<◌, ◌≤◌}
use mathlib.Core.Path.{◌≡◌, refl, sym, ap, subst, ◌∙◌}
use mathlib.Core.List.{List}
use native.Mathlib.Omega.{arith}
use lib.ListN.{length, get_or}
use Rattle.std.specs.Prelude.{Err, Ok}
use Rattle.refusal.specs.declared.Refusal.{Refusal}
use Rattle.refusal.specs.Refusals.{largest64, Outcome}
use Rattle.refusal.specs.Outcome.{in_room, ◌yields◌}
use Rattle.refusal.specs.Values.{counted_of}
use Rattle.refusal.proofs.Outcomes.{yields_inv, yields_passed, yields_refused, room_refused}
use Rattle.chunk_grid.specs.Grid.{Grid, grid_test}
use Rattle.element_form.specs.declared.Form.{Form}
use Rattle.index.specs.Index.{Rec, Listing}
use Rattle.index.specs.ExactList.{ExactList}
use Rattle.elements.specs.declared.ElementReader.{ElementReader}
use Rattle.elements.specs.Elements.{Elements}
use Rattle.elements.specs.Values.{elements_of, Reads}
use Rattle.records.specs.Records.{record_length, list_content, records_in}
use Rattle.records.proofs.Contents.{answer_refused}
use Rattle.located.specs.Located.{Located, index_of}
use Rattle.located.proofs.Walks.{Right}
use Rattle.located.proofs.Lists.{delivered}
use Rattle.walked_index.specs.Walked.{elements_read}
use Rattle.walked_index.proofs.Walked.{Laws}

-- the elements of a reader that is made of this form and count
pub elements_read_lem : (f : List ℕ) (form : Form) (count : ℕ) (r : ElementReader) (g : Grid) (m : ℕ)
    → r.form ≡ form → r.count ≡ count → elements_of f r g m ≡ elements_read f form g m count
elements_read_lem f form count r g m a b = rw (a, b) refl

module _ (walk : Elements → Listing) where
  -- what an index is answered that is walked by such a reader, whose grid has passed its test
  pub walk-read : (f : List ℕ) (form : Form) (count : ℕ) (r : ElementReader) (g : Grid) (m n : ℕ)
      → r.form ≡ form → r.count ≡ count → Reads r g m
      → in_room (walk (elements_of f r g m)) (n / record_length r.numbering.now.grid.now.rank)
      ≡ in_room (grid_test g yields walk (elements_read f form g m count)) (n / record_length g.rank)
  walk-read f form count r g m n a b x =
      ap (λ (y : Elements). in_room (walk y) (n / record_length r.numbering.now.grid.now.rank)) (elements_read_lem f form count r g m a b)
      ∙ ap (λ (y : ℕ). in_room (walk (elements_read f form g m count)) (n / record_length y)) x.numbered.ranked
      ∙ ap (λ (y : Listing). in_room y (n / record_length g.rank)) (sym (yields_passed _ _ x.numbered.built))

  -- a grid's refusal is the list's
  pub list_refused : (e : Elements) (room : ℕ) (out : List ℕ) (r : Refusal) → grid_test e.grid ≡ Err r
      → (Err r ≡ counted_of (in_room (grid_test e.grid yields walk e) room))
      × (out ≡ list_content (in_room (grid_test e.grid yields walk e) room) out)
  list_refused e room out r t = answer_refused _ out r (room_refused _ _ r (yields_refused _ _ r t))

  -- an accepted list of a dataset of rank 1 to 32, chunk by chunk
  module _ {located : Elements → Located} {form : Form} {count : ℕ} (x : Laws walk located form count) where
    pub list-exact : (e : Elements) → form ≡ e.form → count ≡ e.count → ((i : ℕ) → get_or e.file i 0 < 256) → 0 < e.grid.rank → e.count ≤ largest64
        → (out out' : List ℕ) (c : Outcome ℕ)
        → c ≡ counted_of (in_room (grid_test e.grid yields walk e) (length out / record_length e.grid.rank))
        → out' ≡ list_content (in_room (grid_test e.grid yields walk e) (length out / record_length e.grid.rank)) out
        → (n : ℕ) → c ≡ Ok n → ExactList (index_of (located e)) (records_in e.grid.rank n out') n
    list-exact e formed counted =
        subst P (x.elements e) (delivered (located e) (grid_test e.grid yields walk e)) (λ l h. let y = yields_inv _ _ l h in (y.0, x.right e formed counted l y.1))
      where
        P : Elements → Type 0
        P y =
            ((l : List Rec) → (grid_test e.grid yields walk e) ≡ Ok l → (grid_test y.grid ≡ Ok tt) × Right (located e) 0 l)
            → ((i : ℕ) → get_or y.file i 0 < 256) → 0 < y.grid.rank → y.count ≤ largest64
            → (out out' : List ℕ) (c : Outcome ℕ)
            → c ≡ counted_of (in_room (grid_test e.grid yields walk e) (length out / record_length y.grid.rank))
            → out' ≡ list_content (in_room (grid_test e.grid yields walk e) (length out / record_length y.grid.rank)) out
            → (n : ℕ) → c ≡ Ok n → ExactList (index_of (located e)) (records_in y.grid.rank n out') n

-- A refused call says nothing of a list.
pub refused_count : (r : Refusal) (n : ℕ) → Err r ≡ Ok n → ⊥
refused_count r n h = let z : ◌≡◌ {A = ℕ} 0 1 = cc in omega arith
