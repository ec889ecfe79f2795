-- Lazy readers differ from the definitions: by the equation with the list or the lookup, by what an exact list is, or
-- by both. Assumes nothing.
use Prim.Native.Nat.{ℕ}
use mathlib.Core.Path.{◌≡◌, refl, sym, ap, ◌∙◌}
use mathlib.Core.Bool.{false}
use mathlib.Core.List.Memᴰ
use mathlib.Core.List.{List, [], ◌∷◌, map, Memᴰ}
use mathlib.Core.Logic.{⊎_elim}
use native.Mathlib.Omega.{arith}
use borrow.Author.Tests.{eq-eqb}
use lib.Dec.{eqb}
use lib.ListN.{length, get_or, replicate}
use Rattle.std.specs.Prelude.{Err, None, Ok, Some}
use Rattle.refusal.specs.Numbers.{number_of}
use Rattle.refusal.specs.declared.Refusal.{Refusal}
use Rattle.refusal.proofs.Tests.{false_true, neither}
use Rattle.refusal.proofs.Outcomes.{never, yields_inv}
use Rattle.chunk_grid.specs.Grid.{any}
use Rattle.index.specs.Index.{Rec, Listing}
use Rattle.index.specs.ExactList.{ExactList, Answers}
use Rattle.index.proofs.Records.{none_some}
use Rattle.elements.proofs.Elements.{some_is}
use Rattle.records.specs.Records.{list_content}
use Rattle.located.proofs.Lookups.{lookup_answers}
use Rattle.ea_blocks.specs.Structures.{array_test}
use Rattle.ea_walk.specs.Walk.{located}
use Rattle.ea_walk.proofs.Walks.{list-exact}
use Rattle.ea_lookup.specs.Lookup.{lookup}
use Rattle.ea_worked.specs.Files.{list_of, lookup_in, index_in, list_at, lookup_at, list_in}
use Rattle.ea_worked.specs.Worked as W
use Rattle.ea_worked.specs.Pages as P
use Rattle.ea_worked.specs.Lazy.{Excluded, supers_unset, ended_at_clear, always_nine, always_absent, unwritten, always_empty, always_refusing}
use Rattle.ea_worked.proofs.Opened.{opened}
use Rattle.ea_worked.proofs.Worked as Worked
use Rattle.ea_worked.proofs.Pages as Pages

-- a record whose address no record of a list has is not in the list
abbrev address : Rec → ℕ
address r = r.entry.address

not_listed : (r : Rec) (l : List Rec) → any (eqb (address r)) (map address l) ≡ false → Memᴰ r l → ⊥
unfolding any
not_listed r [] h m = Memᴰ.not-nil m
not_listed r (q ∷ l) h m =
    let n = neither _ _ h in
    ⊎_elim (λ (e : r ≡ q). false_true (sym n.0 ∙ eq-eqb _ _ (ap address e))) (λ k. not_listed r l n.1 k) (Memᴰ.cases_cons m)

-- the lists of the two files, behind the header's test
worked_list : list_of W.sample ≡ Ok W.chunks
unfolding list_at W.sample
worked_list = (yields_inv _ _ _ Worked.listed).1

pages-list : list_of P.sample ≡ Ok P.chunks
unfolding list_at P.sample
pages-list = (yields_inv _ _ _ Pages.listed).1

pages-exact : (l : List Rec) → list_of P.sample ≡ Ok l → ExactList (index_in P.sample) l (length l)
unfolding opened P.file P.grid P.sample
pages-exact l h = list-exact (P.sample).array (P.sample).elements refl l (omega arith) (omega arith) h

-- the record of slot 10, which lies behind a clear page of a data block that a super block names
abbrev ten : Rec
ten = P.record_at_slot 10 (20 ∷ 10 ∷ [])

ten_listed : Memᴰ ten P.chunks
unfolding P.chunks
ten_listed = Memᴰ.tail (Memᴰ.tail (Memᴰ.tail (Memᴰ.head refl)))

ten_found : lookup_in P.sample (20 ∷ 10 ∷ []) ≡ Ok (Some ten)
unfolding lookup_at P.sample
ten_found = (yields_inv _ _ _ Pages.found).1

-- no list without it
without_ten : (l : List Rec) → any (eqb (address ten)) (map address l) ≡ false → Excluded P.sample l
without_ten l h = (λ e. wrong (length l) (pages-exact l e), wrong)
  where
    wrong : (n : ℕ) → ExactList (index_in P.sample) l n → ⊥
    wrong n j =
        let s = (pages-exact P.chunks pages-list).listed ten ten_listed in
        not_listed ten l h (j.whole (20 ∷ 10 ∷ []) s.0 ten.entry s.1)

-- Super blocks treated as unset.
supers_are : supers_unset P.sample ≡ Ok (P.record_at_slot 0 (0 ∷ 0 ∷ []) ∷ P.record_at_slot 1 (10 ∷ 0 ∷ []) ∷ [])
unfolding opened P.file P.grid P.sample supers_unset
supers_are = refl

pub supers_unset_lem : (l : List Rec) → supers_unset P.sample ≡ Ok l → Excluded P.sample l
unfolding any
supers_unset_lem l h =
    let e : l ≡ P.record_at_slot 0 (0 ∷ 0 ∷ []) ∷ P.record_at_slot 1 (10 ∷ 0 ∷ []) ∷ [] = cc (supers_are) in
    without_ten l (rw e refl)

-- A data block ended at its first clear page.
pub ended_at_clear_lem : Excluded P.sample ended_at_clear
unfolding any ended_at_clear
ended_at_clear_lem = without_ten ended_at_clear refl

-- Always the empty list.
pub always_empty_lem : Excluded P.sample always_empty
unfolding any
always_empty_lem = without_ten [] refl

-- Always refusing.
pub always_refusing_lem : (r : Refusal) → list_of W.sample ≡ always_refusing r → ⊥
always_refusing_lem r h = never r W.chunks (sym h ∙ worked_list)

-- 9 first thing: there is room.
pub always_nine_lem : (needed : ℕ) → list_in W.sample 48 ≡ always_nine needed → ⊥
always_nine_lem needed h = never _ W.chunks (sym h ∙ Worked.fits)

-- 9 without the walk: it refuses.
pub nine_unwalked : (needed : ℕ) → list_in (P.spoiled 146 0x2e) 0 ≡ always_nine needed → ⊥
unfolding number_of
nine_unwalked needed h = let z : ◌≡◌ {A = ℕ} 26 9 = ap number (sym Pages.walked ∙ h) in omega arith
  where
    number : Listing → ℕ
    number (Err r) = number_of r
    number (Ok l) = 0

-- Absent first thing: not the lookup, and no answer.
pub always_absent_lem : lookup_in P.sample (20 ∷ 10 ∷ []) ≡ always_absent → ⊥
always_absent_lem h = none_some ten (some_is None (Some ten) (sym h ∙ ten_found))

pub never_absent : Answers (index_in P.sample) (20 ∷ 10 ∷ []) None → ⊥
unfolding lookup
never_absent n =
    let s = P.sample in
    let a = lookup_answers (located s.array s.elements) (array_test s.array) (20 ∷ 10 ∷ []) (Some ten) ten_found in
    n a.0.0 ten.entry a.0.1

-- A right count over an unwritten list: the second byte is another.
pub unwritten-list : list_content (list_in W.sample 48) (replicate 48 0) ≡ unwritten (replicate 48 0) → ⊥
unfolding opened W.file W.grid W.sample
unwritten-list h = let z : ◌≡◌ {A = ℕ} 16 0 = ap (λ (l : List ℕ). get_or l 1 0) h in omega arith
