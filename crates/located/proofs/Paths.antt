-- The path to a slot, and the record of its slot where it is accepted. Assumes nothing.
use Prim.Native.Nat.{ℕ, ◌<◌}
use mathlib.Core.Path.{◌≡◌, refl, ap, ◌∙◌}
use mathlib.Core.Bool.{Bool, true, false, not, cond}
use borrow.Author.Tests.{ltb-true}
use lib.Dec.{ltb}
use Rattle.std.specs.Prelude.{Err, None, Ok, Option, Some}
use Rattle.refusal.specs.Refusals.{Outcome}
use Rattle.refusal.specs.declared.Refusal.{Refusal}
use Rattle.refusal.proofs.Tests.{by_cond}
use Rattle.refusal.proofs.Outcomes.{yields_inv, yields_passed, yields_refused}
use Rattle.chunk_grid.specs.Chunks.{chunk_at}
use Rattle.index.specs.declared.Entry.{Entry}
use Rattle.index.specs.Index.{Rec}
use Rattle.index.specs.SlotRecords.{record_of, record_at}
use Rattle.index.proofs.Answers.{slot_record}
use Rattle.elements.specs.Elements.{undefined_element, element}
use Rattle.elements.proofs.Elements.{some_is, element_record}
use Rattle.located.specs.Located.{Located, held_in, index_of, path, slot_path}
use Rattle.located.specs.Values.{HasAt}

-- slot s has its element at pos, and what leads to it has passed its tests
pub record LeadsTo (x : Located) (s pos : ℕ) : Type 0 where
  pub tested : x.tests s ≡ Ok tt
  pub reach : x.reached s ≡ true
  pub position : x.position s ≡ pos

-- slot s has no element, and what leads towards it has passed its tests
pub record LeadsNowhere (x : Located) (s : ℕ) : Type 0 where
  pub tested : x.tests s ≡ Ok tt
  pub reach : x.reached s ≡ false

module _ (x : Located) (s : ℕ) where
  -- where the path ends
  pub way_to : (pos : ℕ) → LeadsTo x s pos → path x s ≡ element x.elements pos s
  unfolding path
  way_to pos h = rw (h.reach, h.position) (yields_passed _ _ h.tested)

  pub way_nowhere : LeadsNowhere x s → path x s ≡ Ok None
  unfolding path
  way_nowhere h = rw h.reach (yields_passed _ _ h.tested)

  pub way_refused : (r : Refusal) → x.tests s ≡ Err r → path x s ≡ Err r
  unfolding path
  way_refused r t = yields_refused _ _ r t

  -- the record of a slot that isn't reached, and of one that is
  pub unreached : x.reached s ≡ false → record_at (index_of x) s ≡ None
  unfolding record_at held_in record_of
  unreached r = rw r refl

  pub reached_record : (pos : ℕ) (r : Option Rec) → HasAt x s pos → element x.elements pos s ≡ Ok r → record_at (index_of x) s ≡ r
  unfolding record_at held_in
  reached_record pos r k h =
      rw (k.reach, k.position)
      (ap (λ (e : Option Entry). record_of e (chunk_at x.elements.grid s)) (flip (undefined_element x.elements pos) _ _) ∙ element_record x.elements pos s r h)
    where
      flip : {A : Type 0} (b : Bool) (y z : A) → cond (not b) y z ≡ cond b z y
      flip true y z = refl
      flip false y z = refl

  -- a path that is accepted with r
  module _ (r : Option Rec) (h : path x s ≡ Ok r) where
    pub path-tested : x.tests s ≡ Ok tt
    unfolding path
    path-tested = (yields_inv _ _ r h).0

    -- has the record of its slot
    pub path_record : record_at (index_of x) s ≡ r
    unfolding path
    path_record =
        by_cond (λ (a : Outcome (Option Rec)). a ≡ Ok r → record_at (index_of x) s ≡ r) (x.reached s)
        (λ t k. reached_record _ r (record { reach = t; position = refl }) k)
        (λ t k. unreached t ∙ some_is None r k)
        (yields_inv _ _ r h).1

    -- and the answer of the element that it reaches
    pub path-element : (pos : ℕ) → HasAt x s pos → element x.elements pos s ≡ Ok r
    unfolding path
    path-element pos k = let a = (yields_inv _ _ r h).1 in rw (k.reach, k.position) at a

-- A lookup's slot: an accepted answer is the slot's record.
pub slot_record_lem : (x : Located) (s : Option ℕ) (r : Option Rec) → slot_path x s ≡ Ok r → slot_record (index_of x) s ≡ r
unfolding slot_path slot_record
slot_record_lem x None r h = some_is None r h
slot_record_lem x (Some s) r h =
    by_cond (λ (a : Outcome (Option Rec)). a ≡ Ok r → slot_record (index_of x) (Some s) ≡ r) (ltb s x.elements.count)
    (λ t k. rw t (path_record x s r k)) (λ t k. rw t (some_is None r k)) h

-- Where every slot's path is accepted, so is every lookup's.
pub slot_accepts : (x : Located) (s : Option ℕ) → ((t : ℕ) → t < x.elements.count → path x t ≡ Ok (record_at (index_of x) t))
    → slot_path x s ≡ Ok (slot_record (index_of x) s)
unfolding slot_path slot_record
slot_accepts x None p = refl
slot_accepts x (Some s) p = go (ltb s x.elements.count) refl
  where
    go : (b : Bool) → ltb s x.elements.count ≡ b → cond b (path x s) (Ok None) ≡ Ok (cond b (record_at (index_of x) s) None)
    go true e = p s (ltb-true s x.elements.count e)
    go false e = refl
