-- The records of an accepted listing in a lent list: their room, and that the list's bytes hold them, exact. Assumes
-- nothing.
use Prim.Native.Nat.{ℕ, ◌+◌, ◌/◌, ◌<◌, ◌≤◌}
use mathlib.Core.Path.{◌≡◌, sym, ap, subst, ◌∙◌}
use mathlib.Core.List.{List}
use native.Mathlib.Nat.{le-div_iff_mul-le}
use native.Mathlib.Omega.{arith}
use lib.ListN.{length, get_or}
use lib.Seq.{sets}
use Rattle.std.specs.Prelude.{None, Ok, Option, Some}
use Rattle.refusal.specs.Refusals.{largest64, Outcome}
use Rattle.refusal.specs.Outcome.{in_room}
use Rattle.refusal.specs.Values.{counted_of}
use Rattle.refusal.proofs.Tests.{by_cond}
use Rattle.refusal.proofs.Outcomes.{yields_inv, room_had, room_inv}
use Rattle.refusal.proofs.Counts.{counted_inv}
use Rattle.chunk_grid.specs.Grid.{grid_test}
use Rattle.chunk_grid.proofs.Grids.{accepted as grid_accepted}
use Rattle.index.specs.Index.{Rec, Listing}
use Rattle.index.specs.SlotRecords.{record_at, records}
use Rattle.index.specs.ExactList.{ExactList}
use Rattle.index.proofs.Records.{none_some, record_rank}
use Rattle.index.proofs.All.{All, records_all}
use Rattle.elements.proofs.Elements.{some_is}
use Rattle.records.specs.Records.{record_length, list_bytes, list_content, records_in}
use Rattle.records.proofs.Records.{Ranked, length-list}
use Rattle.records.proofs.ReadBack.{Fits, list_back, element-fits}
use Rattle.located.specs.Located.{Located, index_of, path}
use Rattle.located.proofs.Walks.{Right, right_records, right_exact}

module _ (x : Located) (bytes : (i : ℕ) → get_or x.elements.file i 0 < 256) where
  path-fits : (s : ℕ) (r : Rec) → path x s ≡ Ok (Some r) → Fits r
  unfolding path
  path-fits s r h =
      by_cond (λ (a : Outcome (Option Rec)). a ≡ Ok (Some r) → Fits r) (x.reached s)
      (λ t e. element-fits x.elements bytes _ s r e) (λ t e. absurd (none_some r (some_is None (Some r) e)))
      (yields_inv _ _ (Some r) h).1

  -- the records of slots fit their bytes, where the paths to these slots are accepted
  pub records_fit : (m s : ℕ) → ((t : ℕ) → s ≤ t → t < s + m → path x t ≡ Ok (record_at (index_of x) t))
      → All Fits (records (index_of x) s m)
  records_fit m s p = records_all Fits (index_of x) m s (λ t r le lt e. path-fits t r (p t le lt ∙ ap Ok e))

-- an accepted walk from slot 0 on, in a grid that has passed its test
module _ (x : Located) (t : grid_test x.elements.grid ≡ Ok tt) (l : List Rec) (r : Right x 0 l) where
  abbrev rank : ℕ
  rank = x.elements.grid.rank

  right_ranked : Ranked rank l
  right_ranked =
      subst (Ranked rank) (sym (right_records x l r))
      (records_all (λ (q : Rec). length q.corner ≡ rank) (index_of x) x.elements.count 0 (λ s q le lt e. record_rank (index_of x) (grid_accepted _ t) s q e))

  -- records that have room for their number have room for their bytes
  pub list-fits : (n : ℕ) → length l ≤ n / record_length rank → length (list_bytes l) ≤ n
  unfolding record_length
  list-fits n le = rw (length-list rank l right_ranked) ((le-div_iff_mul-le {k = record_length rank} (omega arith)).0 le)

  -- and the list's bytes then hold them
  pub records_held : ((i : ℕ) → get_or x.elements.file i 0 < 256) → (out : List ℕ) → length (list_bytes l) ≤ length out
      → records_in rank (length l) (sets out 0 (list_bytes l)) ≡ l
  records_held bytes out le =
      list_back rank l out right_ranked
      (subst (All Fits) (sym (right_records x l r)) (records_fit x bytes x.elements.count 0 (λ s a b. r.paths s a (omega arith)))) le

-- What is answered and what the lent list is then, where a listing is accepted: the number of records, and an exact
-- list of them.
pub delivered : (x : Located) (a : Listing) → ((l : List Rec) → a ≡ Ok l → (grid_test x.elements.grid ≡ Ok tt) × Right x 0 l)
    → ((i : ℕ) → get_or x.elements.file i 0 < 256) → 0 < x.elements.grid.rank → x.elements.count ≤ largest64
    → (out out' : List ℕ) (c : Outcome ℕ)
    → c ≡ counted_of (in_room a (length out / record_length x.elements.grid.rank))
    → out' ≡ list_content (in_room a (length out / record_length x.elements.grid.rank)) out
    → (n : ℕ) → c ≡ Ok n → ExactList (index_of x) (records_in x.elements.grid.rank n out') n
unfolding list_content
delivered x a right bytes ranked fits out out' c e w n h =
    let i = counted_inv _ n (sym h ∙ e) in
    go i.0 i.1 i.2 (rw i.1 at w)
  where
    rank : ℕ
    rank = x.elements.grid.rank

    go : (l : List Rec) → in_room a (length out / record_length rank) ≡ Ok l → n ≡ length l → out' ≡ sets out 0 (list_bytes l)
        → ExactList (index_of x) (records_in rank n out') n
    go l k m o =
        let p = right l (room_inv a _ l k) in
        let room = list-fits x p.0 l p.1 (length out) (room_had a _ l k) in
        rw (m, o, records_held x p.0 l p.1 bytes out room) (right_exact x l p.1 (grid_accepted _ p.0) ranked fits)
