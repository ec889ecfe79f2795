-- What an accepted lookup says, that it agrees with an accepted list, and what the code's steps come to.
-- Assumes nothing.
use Prim.Native.Nat.{ℕ, ◌<◌, ◌≤◌}
use mathlib.Core.Path.{◌≡◌, refl, sym, ap, subst, ◌∙◌}
use mathlib.Core.List.{List}
use borrow.Author.Tests.{lt-ltb, le-ltb}
use lib.ListN.{length}
use Rattle.std.specs.Prelude.{Err, None, Ok, Option, Some}
use Rattle.index.specs.declared.Entry.{Entry}
use Rattle.refusal.specs.declared.Refusal.{Refusal}
use Rattle.refusal.specs.Refusals.{largest64, ◌then◌, Checked, Outcome}
use Rattle.refusal.specs.Outcome.{◌yields◌}
use Rattle.refusal.proofs.Tests.{then_inv}
use Rattle.refusal.proofs.Outcomes.{yields_inv, yields_passed, yields_refused}
use Rattle.chunk_grid.specs.Grid.{Grid, grid_test, corner_test, slot_of}
use Rattle.chunk_grid.proofs.Grids.{chunk_inv}
use Rattle.chunk_grid.proofs.Chunks.{corner_chunk}
use Rattle.element_form.specs.declared.Form.{Form}
use Rattle.index.specs.Index.{Rec, Listing}
use Rattle.elements.specs.Elements.{Elements}
use Rattle.elements.specs.Values.{found_of}
use Rattle.located.specs.Located.{Located, index_of, path, slot_path}
use Rattle.located.proofs.Walks.{Right}
use Rattle.located.proofs.Lookups.{lookup_answers, lookup_accepts, lookup_agrees}
use Rattle.walked_index.specs.Answered.{Answered, Agreed}
use Rattle.walked_index.proofs.Walked.{Laws}

-- a slot's path, by the count
module _ (x : Located) where
  pub no_slot : (q : Option ℕ) → q ≡ None → Ok None ≡ found_of (slot_path x q)
  unfolding slot_path found_of
  no_slot q e = rw e refl

  module _ (q : Option ℕ) (s : ℕ) (e : q ≡ Some s) where
    pub past_count : x.elements.count ≤ s → Ok None ≡ found_of (slot_path x q)
    unfolding slot_path found_of
    past_count le = rw (e, le-ltb s x.elements.count le) refl

    pub below_count : s < x.elements.count → path x s ≡ slot_path x q
    unfolding slot_path
    below_count lt = rw (e, lt-ltb s x.elements.count lt) refl

-- the tests before a path, those of its index last
module _ (g : Grid) (corner : List ℕ) (t : Checked) where
  abbrev pub tests : Checked
  tests = grid_test g then corner_test g corner then t

  -- the first that refuses
  pub grid_stops : {r : Refusal} → grid_test g ≡ Err r → tests ≡ Err r
  unfolding ◌then◌
  grid_stops a = rw a refl

  pub corner_stops : {r : Refusal} → grid_test g ≡ Ok tt → corner_test g corner ≡ Err r → tests ≡ Err r
  unfolding ◌then◌
  corner_stops a b = rw (a, b) refl

  pub entry_decides : {x : Checked} → grid_test g ≡ Ok tt → corner_test g corner ≡ Ok tt → t ≡ x → tests ≡ x
  unfolding ◌then◌
  entry_decides a b e = rw (a, b, e) refl

  -- what they leave
  pub tests_passed : tests ≡ Ok tt → (grid_test g ≡ Ok tt) × (length corner ≡ g.rank) × (t ≡ Ok tt)
  tests_passed h =
      let b = then_inv _ _ h in
      let d = then_inv _ _ b.1 in
      (b.0, (chunk_inv _ _ (corner_chunk _ _ d.0)).ranked, d.1)

  module _ (x : Located) where
    pub lookup_refused : (r : Refusal) → tests ≡ Err r → Err r ≡ found_of (tests yields slot_path x (slot_of g corner))
    unfolding found_of
    lookup_refused r h = sym (ap found_of (yields_refused _ _ r h))

    pub lookup_passed : (q : Option ℕ) → q ≡ slot_of g corner → tests ≡ Ok tt
        → found_of (slot_path x q) ≡ found_of (tests yields slot_path x (slot_of g corner))
    lookup_passed q z h = ap (λ (p : Option ℕ). found_of (slot_path x p)) z ∙ sym (ap found_of (yields_passed _ _ h))

-- what a lookup finds: the equation, and the theorems of it
module _ {walk : Elements → Listing} {located : Elements → Located} {form : Form} {count : ℕ} (x : Laws walk located form count) (t : Checked)
    (enters : (e : Elements) (l : List Rec) → walk e ≡ Ok l → t ≡ Ok tt) where
  pub found_by : (e : Elements) (corner : List ℕ) (found : Outcome (Option Entry)) → form ≡ e.form → count ≡ e.count → e.count ≤ largest64
      → found ≡ found_of (tests e.grid corner t yields slot_path (located e) (slot_of e.grid corner))
      → (found ≡ found_of (tests e.grid corner t yields slot_path (located e) (slot_of e.grid corner)))
      × Answered (tests e.grid corner t yields slot_path (located e) (slot_of e.grid corner)) (index_of (located e)) corner found
      × Agreed (grid_test e.grid yields walk e) e.grid corner found
  found_by e corner found formed counted = subst P (x.elements e) whole
      (λ l h. let y = yields_inv _ _ l h in (y.0, enters e l y.1, x.right e formed counted l y.1))
    where
      P : Elements → Type 0
      P y =
          ((l : List Rec) → (grid_test e.grid yields walk e) ≡ Ok l → (grid_test y.grid ≡ Ok tt) × (t ≡ Ok tt) × Right (located e) 0 l)
          → y.count ≤ largest64
          → found ≡ found_of (tests y.grid corner t yields slot_path (located e) (slot_of y.grid corner))
          → (found ≡ found_of (tests y.grid corner t yields slot_path (located e) (slot_of y.grid corner)))
          × Answered (tests y.grid corner t yields slot_path (located e) (slot_of y.grid corner)) (index_of (located e)) corner found
          × Agreed (grid_test e.grid yields walk e) y.grid corner found

      whole : P (located e).elements
      whole passed fits q = (
        q,
        λ r h. (q ∙ ap found_of h, lookup_answers (located e) t corner r h),
        λ l ranked h k.
            let p = passed l h in (
              _,
              q ∙ ap found_of (lookup_accepts (located e) t corner l p.2 p.0 p.1 k),
              lookup_agrees (located e) t corner l p.2 p.0 p.1 k ranked fits,
            ),
      )
