-- Which corners are chunks, and the slot of a corner, place by place. Assumes nothing.
use Prim.Native.Nat.{ℕ, suc, ◌+◌, ◌*◌, ◌/◌, ◌<◌, ◌≤◌, max}
use mathlib.Core.Path.{◌≡◌, refl, sym, ap, ◌∙◌}
use mathlib.Core.Bool.{true, false, cond, ◌&&◌, and-false}
use mathlib.Core.List.{List}
use mathlib.Core.Logic.{⊎_elim}
use native.Mathlib.Nat.{zero-add, add-zero}
use native.Mathlib.Numerals.{add-one}
use native.Mathlib.Omega.{arith}
use borrow.Author.Tests.{lt-ltb, le-ltb, le-leb, lt-leb, ne_eqb}
use lib.Dec.{eqb, leb}
use lib.ListN.{length, get_or, take, drop, length-take, drop_of_length-le}
use lib.Seq.{drop-cons, get_or-take, length-take-le}
use Rattle.std.specs.Prelude.{Err, None, Ok, Option, Some}
use Rattle.refusal.specs.declared.Refusal.TheVariants.{Corner}
use Rattle.refusal.specs.Refusals.{largest64, refuse}
use Rattle.chunk_grid.specs.declared.ChunkGrid.{ChunkGrid}
use Rattle.chunk_grid.specs.Grid.{Grid, pairwise, every, to_front, ordered, multipliers, below, aligned, is_chunk, corner_test, total, slot_from, slot_of, grid_test, given}
use Rattle.chunk_grid.specs.Values.{grid_of, dim_at, GridNumbers, GridCounts}
use Rattle.refusal.proofs.Tests.{lt_or_ge}
use Rattle.chunk_grid.proofs.Grids.{Chunk, is_chunk_lem, accepted}
use Rattle.chunk_grid.proofs.Order.{length_front, length-pairwise}
use Rattle.chunk_grid.proofs.Members.{get_d_pairwise}
use Rattle.chunk_grid.proofs.Places.{front_at, in_order, length_order, order_at}
use Rattle.chunk_slots.proofs.Extents.{leads, rooms, chunk_are}

-- the test of a corner
module _ (g : Grid) (corner : List ℕ) where
  no_chunk : is_chunk g corner ≡ false → Err Corner ≡ corner_test g corner
  unfolding corner_test refuse
  no_chunk e = rw e refl

  pub other_rank_lem : (length corner ≡ g.rank → ⊥) → Err Corner ≡ corner_test g corner
  unfolding is_chunk
  other_rank_lem n = no_chunk (rw (ne_eqb (length corner) g.rank n) refl)

  unaligned : aligned corner g.chunk ≡ false → Err Corner ≡ corner_test g corner
  unfolding is_chunk
  unaligned e = no_chunk (rw (e, and-false (eqb (length corner) g.rank)) refl)

  outside : below corner g.present ≡ false → Err Corner ≡ corner_test g corner
  unfolding is_chunk
  outside e = no_chunk (rw (e, and-false (eqb (length corner) g.rank && aligned corner g.chunk)) refl)

  chunk_passes : Chunk g corner → Ok tt ≡ corner_test g corner
  unfolding corner_test refuse
  chunk_passes k = rw (is_chunk_lem g corner k) refl

-- The test over the arrays of a grid; the corner has the grid's rank.
module _ (k : ChunkGrid) (corner : List ℕ) (e : length corner ≡ k.rank) where
  pub corner_small : grid_test (grid_of k) ≡ Ok tt → length corner ≤ 32
  unfolding grid_of given
  corner_small t = omega (arith, (accepted (grid_of k) t).small)

  aligned_are : aligned corner (grid_of k).chunk ≡ aligned corner (take (length corner) k.chunk)
  unfolding grid_of given
  aligned_are = ap (λ (n : ℕ). aligned corner (take n k.chunk)) (sym e)

  below_are : below corner (grid_of k).present ≡ below corner (take (length corner) k.present)
  unfolding grid_of given
  below_are = ap (λ (n : ℕ). below corner (take n k.present)) (sym e)

  pub unaligned_here : aligned corner (take (length corner) k.chunk) ≡ false → Err Corner ≡ corner_test (grid_of k) corner
  unaligned_here a = unaligned (grid_of k) corner (aligned_are ∙ a)

  pub outside_here : below corner (take (length corner) k.present) ≡ false → Err Corner ≡ corner_test (grid_of k) corner
  outside_here b = outside (grid_of k) corner (below_are ∙ b)

  pub passes : aligned corner (take (length corner) k.chunk) ≡ true → below corner (take (length corner) k.present) ≡ true → Ok tt ≡ corner_test (grid_of k) corner
  unfolding grid_of given
  passes a b = chunk_passes (grid_of k) corner (record { ranked = e; multiple = aligned_are ∙ a; inside = below_are ∙ b })

-- The slot of a corner: what the loop has before place i, over quotients, counts and multipliers in the grid's order.
module _ (qs cs ms : List ℕ) where
  abbrev rest : ℕ → ℕ → ℕ
  rest i slot = slot + total (pairwise ◌*◌ (drop i qs) (drop i ms))

  unfoldable pub onward : ℕ → ℕ → Option ℕ
  onward i slot = cond (below (drop (max i 1) qs) (drop (max i 1) cs) && leb (rest i slot) largest64) (Some (rest i slot)) None

  module _ (i slot : ℕ) (hq : i < length qs) (hc : i < length cs) (hm : i < length ms) where
    abbrev q : ℕ
    q = get_or qs i 0

    abbrev m : ℕ
    m = get_or ms i 0

    rest_is : rest i slot ≡ rest (i + 1) (slot + q * m)
    unfolding total pairwise
    rest_is = rw (drop-cons qs i 0 hq, drop-cons ms i 0 hm, add-one) (omega arith)

    pub too_large : largest64 < slot + q * m → None ≡ onward i slot
    unfolding onward
    too_large h =
        rw (rest_is, lt-leb (rest (i + 1) (slot + q * m)) largest64 (omega arith), and-false (below (drop (max i 1) qs) (drop (max i 1) cs))) refl

    pub not_below : 0 < i → get_or cs i 0 ≤ q → None ≡ onward i slot
    unfolding onward below every
    not_below pos h =
        let e : max i 1 ≡ i = omega arith in
        rw (e, drop-cons qs i 0 hq, drop-cons cs i 0 hc, le-ltb q (get_or cs i 0) h) refl

    below_on : (0 < i → q < get_or cs i 0) → below (drop (max (i + 1) 1) qs) (drop (max (i + 1) 1) cs) ≡ below (drop (max i 1) qs) (drop (max i 1) cs)
    unfolding below every
    below_on h =
        ⊎_elim
        (λ (pos : 0 < i).
        let e : max i 1 ≡ i = omega arith in
        let f : max (i + 1) 1 ≡ suc i = omega arith in
        rw (e, f, drop-cons qs i 0 hq, drop-cons cs i 0 hc, lt-ltb q (get_or cs i 0) (h pos)) refl)
        (λ (none : i ≤ 0). let e : max (i + 1) 1 ≡ max i 1 = omega arith in rw e refl) (lt_or_ge 0 i)

    pub next_place : (0 < i → q < get_or cs i 0) → onward (i + 1) (slot + q * m) ≡ onward i slot
    unfolding onward
    next_place h = rw (below_on h, ← rest_is) refl

  last_place : (i slot : ℕ) → length qs ≤ i → slot ≤ largest64 → Some slot ≡ onward i slot
  unfolding onward total pairwise below every
  last_place i slot h fits =
      rw (drop_of_length-le qs {i = i} h, drop_of_length-le qs {i = max i 1} (omega arith), add-zero, le-leb slot largest64 fits) refl

  pub first-place : ms ≡ multipliers cs → onward 0 0 ≡ slot_from qs cs
  unfolding onward slot_from
  first-place e = rw (zero-add, e) refl

-- the quotients of a corner, in the grid's order
abbrev pub corner_quotients : ℕ → List ℕ → List ℕ → List ℕ
corner_quotients u corner chunk = pairwise ◌/◌ (to_front u corner) (in_order (length corner) u chunk)

-- For a built grid with its numbers.
module _ (g : Grid) (corner : List ℕ) (u : ℕ) (chunk counts down : List ℕ) (n : GridNumbers (length corner) u chunk down g) (k : GridCounts (length corner) counts g) where
  pub counts_room : length corner ≤ length counts
  counts_room = omega (arith, sym (length-take (length corner) counts) ∙ ap length k ∙ (accepted g n.built).counted, n.ranked)

  size : length (to_front u corner) ≡ length corner
  size = length_front u corner (leads g (length corner) u chunk down n)

  same : length (to_front u corner) ≡ length (in_order (length corner) u chunk)
  same = size ∙ sym (length_order (length corner) u chunk (leads g (length corner) u chunk down n) (rooms g (length corner) u chunk down n).0)

  length_corner : length (corner_quotients u corner chunk) ≡ length corner
  length_corner = length-pairwise ◌/◌ _ _ same ∙ size

  pub corner_at : (i : ℕ) → i < length corner → get_or (corner_quotients u corner chunk) i 0 ≡ get_or corner (dim_at u i) 0 / get_or chunk (dim_at u i) 0
  corner_at i h =
      let l = leads g (length corner) u chunk down n in
      get_d_pairwise ◌/◌ (to_front u corner) (in_order (length corner) u chunk) i same (omega (arith, size))
      ∙ rw (front_at u i corner (omega arith) h, order_at (length corner) u chunk l (rooms g (length corner) u chunk down n).0 i h) refl

  -- a turn of the loop, in its own terms
  module _ (i slot : ℕ) (h : i < length corner) where
    abbrev quotient : ℕ
    quotient = get_or corner (dim_at u i) 0 / get_or chunk (dim_at u i) 0

    abbrev Q : List ℕ
    Q = corner_quotients u corner chunk

    abbrev C : List ℕ
    C = in_order (length corner) u counts

    abbrev M : List ℕ
    M = take (length corner) down

    hq : i < length Q
    hq = omega (arith, length_corner)

    hc : i < length C
    hc = omega (arith, length_order (length corner) u counts (leads g (length corner) u chunk down n) counts_room)

    hm : i < length M
    hm = omega (arith, length-take-le (length corner) down (rooms g (length corner) u chunk down n).1)

    count_at : get_or C i 0 ≡ get_or counts (dim_at u i) 0
    count_at = order_at (length corner) u counts (leads g (length corner) u chunk down n) counts_room i h

    down_at : get_or M i 0 ≡ get_or down i 0
    down_at = get_or-take (length corner) down i 0 h

    pub past_count : 0 < i → get_or counts (dim_at u i) 0 ≤ quotient → None ≡ onward Q C M i slot
    past_count pos le = not_below Q C M i slot hq hc hm pos (rw (count_at, corner_at i h) le)

    pub past_64 : largest64 < slot + quotient * get_or down i 0 → None ≡ onward Q C M i slot
    past_64 lt = too_large Q C M i slot hq hc hm (rw (corner_at i h, down_at) lt)

    pub one_more : (0 < i → quotient < get_or counts (dim_at u i) 0) → onward Q C M (i + 1) (slot + quotient * get_or down i 0) ≡ onward Q C M i slot
    one_more lt = rw (← corner_at i h, ← down_at) (next_place Q C M i slot hq hc hm (rw (count_at, corner_at i h) lt))

  -- behind the last place
  pub past_places : (i slot : ℕ) → length corner ≤ i → slot ≤ largest64 → Some slot ≡ onward (corner_quotients u corner chunk) (in_order (length corner) u counts) (take (length corner) down) i slot
  past_places i slot h fits = last_place _ _ _ i slot (rw length_corner h) fits

  counts_are : in_order (length corner) u counts ≡ ordered g
  unfolding ordered
  counts_are = rw (k, n.leads) refl

  pub slot_is : onward (corner_quotients u corner chunk) (in_order (length corner) u counts) (take (length corner) down) 0 0 ≡ slot_of g corner
  unfolding slot_of
  slot_is =
      first-place (corner_quotients u corner chunk) (in_order (length corner) u counts) (take (length corner) down) (n.downs ∙ ap multipliers (sym counts_are))
      ∙ rw (counts_are, chunk_are g (length corner) u chunk down n, n.leads) refl
