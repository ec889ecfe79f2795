-- What is read of a call, and the list and the lookup of a call that is read, or refused, in any kind of index.
-- Assumes nothing.
use Prim.Native.Nat.{ℕ, ◌/◌, ◌<◌}
use mathlib.Core.Path.{◌≡◌, sym, ap, subst, ◌∙◌}
use mathlib.Core.List.{List}
use lib.ListN.{length}
use Rattle.std.specs.Prelude.{Ok, Err, Option}
use Rattle.index.specs.declared.Entry.{Entry}
use Rattle.refusal.specs.declared.Refusal.{Refusal}
use Rattle.refusal.specs.Refusals.{◌then◌, Checked, Outcome}
use Rattle.refusal.specs.Outcome.{◌yields◌, in_room}
use Rattle.refusal.specs.Values.{counted_of}
use Rattle.refusal.proofs.Tests.{then_first, then_second}
use Rattle.refusal.proofs.Outcomes.{never, value_is, refused_is, yields_inv, yields_passed, yields_refused, yields_stopped, room_refused, room_inv}
use Rattle.chunk_grid.specs.declared.ChunkGrid.{ChunkGrid}
use Rattle.chunk_grid.specs.Grid.{Grid, grid_test, corner_test, slot_of}
use Rattle.chunk_grid.specs.Values.{grid_of, grids, built}
use Rattle.element_form.specs.declared.Form.{Form}
use Rattle.index.specs.Index.{Index, Rec, Listing}
use Rattle.index.specs.ExactList.{ExactList}
use Rattle.elements.specs.Elements.{Elements}
use Rattle.elements.specs.Values.{found_of}
use Rattle.records.specs.Records.{record_length, list_content, records_in}
use Rattle.records.proofs.Contents.{answer_refused}
use Rattle.located.specs.Located.{Located, index_of, slot_path}
use Rattle.walked_index.specs.Answered.{Answered, Agreed}
use Rattle.walked_index.specs.Walked.{elements_read}
use Rattle.walked_index.proofs.Lists.{refused_count}

-- A call's grid: what is read of it.
module _ (g : Grid) where
  pub grid_read : {k : ChunkGrid} {read : Outcome ChunkGrid} → read ≡ Ok k → grids read ≡ built g → (grid_test g ≡ Ok tt) × (grid_of k ≡ g)
  unfolding grids built
  grid_read {k = k} h e = let i = value_is (grid_test g) g (grid_of k) (sym (ap grids h) ∙ e) in (sym i.0, i.1)

  grid_stops : {q : Refusal} {read : Outcome ChunkGrid} → read ≡ Err q → grids read ≡ built g → Err q ≡ grid_test g
  unfolding grids built
  grid_stops {q = q} h e = refused_is (grid_test g) g q (sym (ap grids h) ∙ e)

  -- It is refused, by the test t of its header, or by that of its grid.
  module _ {A : Type 0} (t : Checked) (i : A) {q : Refusal} {header : Outcome A} (e : header ≡ (t yields Ok i)) where
    pub header_refused : header ≡ Err q → t then grid_test g ≡ Err q
    header_refused h = sym (then_first t (grid_test g) (refused_is t i q (sym h ∙ e)))

    pub grid_refused : {x : A} {read : Outcome ChunkGrid} → header ≡ Ok x → read ≡ Err q → grids read ≡ built g → t then grid_test g ≡ Err q
    grid_refused {x = x} h k f = sym (grid_stops k f ∙ then_second t (grid_test g) (value_is t i x (sym h ∙ e)).0)

-- what is answered to a list of an index, and what the lent bytes then hold
abbrev pub Lists : ℕ → Listing → Index → List ℕ → Outcome ℕ → List ℕ → Type 0
Lists rank a i out counted out' =
    (counted ≡ counted_of a)
    × (out' ≡ list_content a out)
    × ((n : ℕ) → counted ≡ Ok n → 0 < rank → ExactList i (records_in rank n out') n)

-- A kind of index, in a file, of a dataset with this element size; and a call whose header has the test t and heads the
-- index i, and whose grid is g.
module _ {A : Type 0} (form : A → Form) (count : A → ℕ) (entry : A → List ℕ → Checked) (walk : A → List ℕ → Elements → Listing)
    (located : A → List ℕ → Elements → Located) (f : List ℕ) (n : ℕ) (t : Checked) (i : A) (g : Grid) where
  abbrev elements : A → Grid → Elements
  elements x y = elements_read f (form x) y n (count x)

  abbrev index : A → Grid → Index
  index x y = index_of (located x f (elements x y))

  abbrev list : A → Grid → Listing
  list x y = grid_test y yields walk x f (elements x y)

  abbrev lookup : A → Grid → List ℕ → Outcome (Option Rec)
  lookup x y corner = grid_test y then corner_test y corner then entry x f yields slot_path (located x f (elements x y)) (slot_of y corner)

  -- the room that there is for records
  abbrev room : List ℕ → Grid → ℕ
  room out y = length out / record_length y.rank

  -- a list of the call that is refused, in any room
  list_stopped : (k : ℕ) (q : Refusal) → t then grid_test g ≡ Err q → t yields in_room (list i g) k ≡ Err q
  list_stopped k q e = yields_stopped _ _ _ q e (λ s. room_refused _ _ q (yields_refused _ _ q s))

  abbrev Listed : List ℕ → Outcome ℕ → List ℕ → Type 0
  Listed out counted out' = Lists g.rank (t yields in_room (list i g) (room out g)) (index i g) out counted out'

  abbrev Called : List ℕ → Outcome (Option Entry) → Type 0
  Called corner found =
      (found ≡ found_of (t yields lookup i g corner)) × Answered (t yields lookup i g corner) (index i g) corner found
      × ((k : ℕ) → Agreed (t yields in_room (list i g) k) g corner found)

  pub listed_refused : (out : List ℕ) (counted : Outcome ℕ) (q : Refusal) → counted ≡ Err q → t then grid_test g ≡ Err q → Listed out counted out
  listed_refused out counted q h e =
      let p = answer_refused _ out q (list_stopped (room out g) q e) in
      (h ∙ p.0, p.1, λ k z. absurd (refused_count q k (sym h ∙ z)))

  pub called_refused : (corner : List ℕ) (found : Outcome (Option Entry)) (q : Refusal) → found ≡ Err q → t then grid_test g ≡ Err q → Called corner found
  unfolding found_of
  called_refused corner found q h e =
      let z = yields_stopped t _ (lookup i g corner) q e (λ s. yields_refused _ _ q (sym (then_first _ _ (sym s)))) in (
        h ∙ sym (ap found_of z),
        λ x a. absurd (never q x (sym z ∙ a)),
        λ k l ranked a b. absurd (never q l (sym (list_stopped k q e) ∙ a)),
      )

  -- What holds of the index and the grid that are read holds of the call's own.
  module _ (passed : t ≡ Ok tt) {x : A} (own : x ≡ i) {y : Grid} (given : y ≡ g) where
    pub listed_passed : (out : List ℕ) (counted : Outcome ℕ) (out' : List ℕ)
        → Lists y.rank (in_room (list x y) (room out y)) (index x y) out counted out' → Listed out counted out'
    listed_passed out counted out' p =
        let q : Lists g.rank (in_room (list i g) (room out g)) (index i g) out counted out' = rw (← own, ← given) p in
        subst (λ (a : Listing). Lists g.rank a (index i g) out counted out') (sym (yields_passed _ _ passed)) q

    pub called_passed : (corner at : List ℕ) → at ≡ corner → (found : Outcome (Option Entry))
        → (found ≡ found_of (lookup x y at)) × Answered (lookup x y at) (index x y) at found × Agreed (list x y) y at found
        → Called corner found
    called_passed corner at j found p =
        let q : (found ≡ found_of (lookup i g corner)) × Answered (lookup i g corner) (index i g) corner found × Agreed (list i g) g corner found =
        rw (← own, ← given, ← j) p in
        let z = yields_passed _ (lookup i g corner) passed in (
          q.0 ∙ sym (ap found_of z),
          λ r a. q.1 r (sym z ∙ a),
          λ k l ranked a b. q.2 l ranked (room_inv _ k l (yields_inv _ _ l a).1) b,
        )
