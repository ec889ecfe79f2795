-- Lazy readers differ from the definitions: by the equation with the list or the lookup, by what an exact list is, or
-- by both. Assumes nothing.
use Prim.Native.Nat.{ℕ}
use mathlib.Core.Path.{◌≡◌, refl, sym, ap, ◌∙◌}
use mathlib.Core.Bool.{false}
use mathlib.Core.List.Memᴰ
use mathlib.Core.List.{List, [], ◌∷◌, map, Memᴰ}
use mathlib.Core.Logic.{⊎_elim}
use native.Mathlib.Omega.{arith}
use borrow.Author.Tests.{eq-eqb}
use lib.Dec.{eqb}
use lib.ListN.{get_or, take, replicate}
use Rattle.std.specs.Prelude.{Err, None, Ok, Some}
use Rattle.refusal.specs.declared.Refusal.{Refusal}
use Rattle.refusal.specs.Numbers.{number_of}
use Rattle.refusal.proofs.Tests.{false_true, neither}
use Rattle.refusal.proofs.Outcomes.{never}
use Rattle.chunk_grid.specs.Grid.{any}
use Rattle.index.specs.Index.{Rec, Listing}
use Rattle.index.specs.ExactList.{Stored, Answers}
use Rattle.index.proofs.Records.{none_some}
use Rattle.elements.proofs.Elements.{some_is}
use Rattle.records.specs.Records.{list_content}
use Rattle.fa_worked.specs.Files.{index_in, list_of, list_in, lookup_in}
use Rattle.fa_worked.specs.Unpaged as U
use Rattle.fa_worked.specs.Pages as P
use Rattle.fa_worked.specs.Lazy.{Excluded, pages_unset, until_clear, ended_at_clear, always_empty, always_refusing, always_nine, always_absent, unwritten}
use Rattle.fa_worked.proofs.Opened.{opened}
use Rattle.fa_worked.proofs.Unpaged as Unpaged
use Rattle.fa_worked.proofs.Pages as Pages

-- a record whose address no record of a list has is not in the list
abbrev address : Rec → ℕ
address r = r.entry.address

not_listed : (r : Rec) (l : List Rec) → any (eqb (address r)) (map address l) ≡ false → Memᴰ r l → ⊥
unfolding any
not_listed r [] h m = Memᴰ.not-nil m
not_listed r (q ∷ l) h m =
    let n = neither _ _ h in
    ⊎_elim (λ (e : r ≡ q). false_true (sym n.0 ∙ eq-eqb _ _ (ap address e))) (λ k. not_listed r l n.1 k) (Memᴰ.cases_cons m)

-- the record of slot 4, which lies behind a clear page
abbrev four : Rec
four = P.record_at_slot 4 (10 ∷ 5 ∷ [])

-- its place holds it
four_stored : Stored (index_in P.call) (10 ∷ 5 ∷ []) 4 four.entry
unfolding opened P.file P.grid P.call_on
four_stored = record { chunk = refl; slot = refl; published = omega arith; holds = refl }

-- what is listed
chunks_listed : (l : List Rec) → list_of P.call ≡ Ok l → Memᴰ four l
unfolding P.chunks
chunks_listed l h =
    let e : l ≡ P.chunks = cc (Pages.listed) in rw e (Memᴰ.tail (Memᴰ.head refl))

-- no list without it
without_four : (l : List Rec) → any (eqb (address four)) (map address l) ≡ false → Excluded P.call l
without_four l h = (
  λ e. not_listed four l h (chunks_listed l e),
  λ n j. not_listed four l h (j.whole (10 ∷ 5 ∷ []) 4 four.entry four_stored),
)

-- All pages treated as unset.
unset_is : pages_unset P.call ≡ Ok []
unfolding opened P.file P.grid P.call_on pages_unset
unset_is = refl

pub pages_unset_lem : (l : List Rec) → pages_unset P.call ≡ Ok l → Excluded P.call l
unfolding any
pages_unset_lem l h = let e : l ≡ [] = cc (unset_is) in without_four l (rw e refl)

-- Ended at the first clear page.
ended_is : ended_at_clear P.call ≡ Ok (P.record_at_slot 0 (0 ∷ 0 ∷ []) ∷ [])
unfolding opened P.file P.grid P.call_on ended_at_clear until_clear
ended_is = refl

pub ended_at_clear_lem : (l : List Rec) → ended_at_clear P.call ≡ Ok l → Excluded P.call l
unfolding any
ended_at_clear_lem l h = let e : l ≡ P.record_at_slot 0 (0 ∷ 0 ∷ []) ∷ [] = cc (ended_is) in without_four l (rw e refl)

-- Always the empty list.
pub always_empty_lem : Excluded P.call always_empty
unfolding any
always_empty_lem = without_four [] refl

-- Always refusing.
pub always_refusing_lem : (r : Refusal) → list_of P.call ≡ always_refusing r → ⊥
always_refusing_lem r h = never r P.chunks (sym h ∙ Pages.listed)

-- 9 first thing: there is room.
pub always_nine_lem : (needed : ℕ) → list_in U.call 72 ≡ always_nine needed → ⊥
always_nine_lem needed h = never _ U.chunks (sym h ∙ Unpaged.fits)

-- 9 without the walk: it refuses.
pub nine_unwalked : (needed : ℕ) → list_in (P.call_on (take 100 P.file)) 0 ≡ always_nine needed → ⊥
unfolding number_of opened P.file P.grid P.call_on
nine_unwalked needed h = let z : ◌≡◌ {A = ℕ} 20 9 = ap number h in omega arith
  where
    number : Listing → ℕ
    number (Err r) = number_of r
    number (Ok l) = 0

-- Absent first thing: not the lookup, and no answer.
pub always_absent_lem : lookup_in P.call (10 ∷ 5 ∷ []) ≡ always_absent → ⊥
unfolding opened P.file P.grid P.call_on
always_absent_lem h = none_some four (some_is None (Some four) (sym h))

pub never_absent : Answers (index_in P.call) (10 ∷ 5 ∷ []) None → ⊥
never_absent n = n 4 four.entry four_stored

-- A right count over an unwritten list: the second byte is another.
pub unwritten-list : list_content (list_in U.call 72) (replicate 72 0) ≡ unwritten (replicate 72 0) → ⊥
unfolding opened U.file U.grid U.call_on
unwritten-list h = let z : ◌≡◌ {A = ℕ} 16 0 = ap (λ (l : List ℕ). get_or l 1 0) h in omega arith
