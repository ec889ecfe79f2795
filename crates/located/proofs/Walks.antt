-- An accepted walk lists the records of its slots in slot order, and the path to each of these slots is accepted with
-- the slot's record: each step of a walk keeps this of what is walked behind it. Assumes nothing.
use Prim.Native.Nat.{ℕ, ◌+◌, ◌<◌, ◌≤◌}
use mathlib.Core.Path.{◌≡◌, refl, sym, ap, subst, ◌∙◌}
use mathlib.Core.List.{List, []}
use mathlib.Core.Logic.{⊎_elim}
use native.Mathlib.Omega.{arith}
use native.Mathlib.Nat.{eq-or-lt_of_le}
use lib.ListN.{length}
use Rattle.std.specs.Prelude.{None, Ok, Option}
use Rattle.refusal.specs.Refusals.{largest64}
use Rattle.refusal.proofs.Outcomes.{yields_inv}
use Rattle.chunk_grid.proofs.Grids.{Accepted}
use Rattle.index.specs.Index.{Rec, Listing}
use Rattle.index.specs.SlotRecords.{record_at, with, records}
use Rattle.index.specs.ExactList.{ExactList}
use Rattle.index.proofs.Records.{from, from_end, from_more, from_first}
use Rattle.index.proofs.Exact.{records-exact}
use Rattle.elements.proofs.Answers.{also_element_inv}
use Rattle.elements.proofs.Induction.{Steps}
use Rattle.located.specs.Located.{Located, index_of, path}
use Rattle.located.proofs.Paths.{LeadsTo, LeadsNowhere, way_to, way_nowhere, path_record}

nil_is : (l : List Rec) → ◌≡◌ {A = Listing} (Ok []) (Ok l) → l ≡ []
nil_is l h = cc

-- what an accepted walk from slot s on, with the list l, has shown
pub record Right (x : Located) (s : ℕ) (l : List Rec) : Type 0 where
  pub is : l ≡ from (index_of x) s
  pub paths : (t : ℕ) → s ≤ t → t < x.elements.count → path x t ≡ Ok (record_at (index_of x) t)

module _ (x : Located) where
  abbrev count : ℕ
  count = x.elements.count

  -- from the count on all slots are alike
  right_past : (s s' : ℕ) (l : List Rec) → count ≤ s → count ≤ s' → Right x s' l → Right x s l
  right_past s s' l h h' r = record { is = r.is ∙ from_end (index_of x) s' h' ∙ sym (from_end (index_of x) s h); paths = λ t a b. absurd (omega arith) }

  pub right_end : (s : ℕ) (l : List Rec) → count ≤ s → ◌≡◌ {A = Listing} (Ok []) (Ok l) → Right x s l
  right_end s l h e = record { is = nil_is l e ∙ sym (from_end (index_of x) s h); paths = λ t a b. absurd (omega arith) }

  -- one slot whose path is accepted
  right_more : (s : ℕ) (r : Option Rec) (l m : List Rec) → s < count → path x s ≡ Ok r → l ≡ with r m → Right x (s + 1) m → Right x s l
  right_more s r l m lt q h k =
      let e = path_record x s r q in
      record {
        is = h ∙ ap (with r) k.is ∙ sym (from_more (index_of x) s r lt e);
        paths = λ t a b. ⊎_elim
            (λ (z : s ≡ t). subst (λ (y : ℕ). path x y ≡ Ok (record_at (index_of x) y)) z (q ∙ ap (λ (y : Option Rec). Ok y) (sym e)))
            (λ (z : s < t). k.paths t (omega arith) b) (eq-or-lt_of_le a);
      }

  -- what an accepted listing from slot s on has shown: each step of a walk keeps it
  abbrev pub Shows : ℕ → Listing → Listing → Type 0
  Shows s a b = (l : List Rec) → a ≡ Ok l → Right x s l

  pub right_steps : Steps x.elements (LeadsTo x) (LeadsNowhere x) (λ t. Unit {0}) Shows
  unfolding with
  right_steps = record {
    past = λ s s' a b h h' r l e. right_past s s' l h h' (r l e);
    lack = λ s a b lt n r l e. right_more s None l l lt (way_nowhere x s n) refl (r l e);
    has = λ s pos a b lt w r l e.
        let i = also_element_inv _ _ l e in
        right_more s i.0 l i.1 lt (way_to x s pos w ∙ i.2) i.4 (r i.1 i.3);
    test = λ t s a b n r l e. let y = yields_inv _ _ l e in r y.0 l y.1;
  }

-- what an accepted walk from slot 0 on has shown of its list: it is the records of all slots below the count, ..
pub right_records : (x : Located) (l : List Rec) → Right x 0 l → l ≡ records (index_of x) 0 x.elements.count
right_records x l r = r.is ∙ from_first (index_of x)

-- .. and exact, for rank 1 at least
pub right_exact : (x : Located) (l : List Rec) → Right x 0 l → Accepted x.elements.grid → 0 < x.elements.grid.rank → x.elements.count ≤ largest64
    → ExactList (index_of x) l (length l)
right_exact x l r b ranked fits =
    subst (λ (m : List Rec). ExactList (index_of x) m (length m)) (sym (right_records x l r)) (records-exact (index_of x) b ranked fits)
