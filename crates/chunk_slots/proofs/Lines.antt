-- Lines of slots: what a turn of the loop over the places keeps, and what it comes to for the grid. Assumes nothing.
use Prim.Native.Nat.{ℕ, zero, suc, ◌+◌, ◌-◌, ◌*◌, ◌/◌, ◌%◌, ◌<◌, ◌≤◌, min}
use mathlib.Core.Path.{◌≡◌, refl, sym, ap, ◌∙◌}
use mathlib.Core.Logic.{◌≢◌, ⊎_elim}
use mathlib.Core.Bool.{Bool, true}
use mathlib.Core.List.{List, [], ◌∷◌, ◌++◌, append_assoc}
use native.Mathlib.Decide.{ℕ_discrete}
use native.Mathlib.Nat.{mod-lt, div-add-mod', div-one, mod-one}
use native.Mathlib.Numerals.{add-one}
use native.Mathlib.Omega.{arith}
use borrow.Author.Tests.{lt-ltb, ltb-true}
use lib.Arith.{digits_div, digits_mod}
use lib.Dec.{ltb}
use lib.ListN.{length, get_or, take, drop, set, length-set, drop_of_length-le}
use lib.Seq.{take-suc, set_split, get_or-take, get_or-set_same, get_or-set_other, ext_get_or}
use Rattle.std.specs.Prelude.{Ok}
use Rattle.refusal.specs.Refusals.{largest64}
use Rattle.refusal.proofs.Tests.{false_true, both, lt_or_ge}
use Rattle.chunk_grid.specs.Grid.{Grid, pairwise, every, leading, to_front, from_front, ordered, multiplier, multipliers, quotients, offsets, below}
use Rattle.chunk_grid.specs.Values.{dim_at, GridNumbers, Extents, in_extent, offsets_of}
use Rattle.chunk_slots.specs.Lines.{InLine}
use Rattle.chunk_grid.proofs.Order.{length_back}
use Rattle.chunk_grid.proofs.Grids.{Accepted, accepted, lead, length-ordered, quotients-chunk, length_products, length-offsets}
use Rattle.chunk_grid.proofs.Members.{multiplier_at}
use Rattle.chunk_grid.proofs.Places.{dim_lt, dim_inj, placed, front_at, back_at, in_order, order_at}
use Rattle.chunk_slots.proofs.Extents.{quotients_by, size_quotients, quotients_split, quotient_at, small, leads, rooms, chunk_at_lem, down_pos, bound_room, offset_fits, below_is}
use Rattle.chunk_grid.proofs.Slots.{below-fits, inside_inv, inside}

-- j slots on, where the rest has room for them: the quotient stays, and the rest grows by j
further : (m rest j : ℕ) → rest % m + j < m → ((rest + j) / m ≡ rest / m) × ((rest + j) % m ≡ rest % m + j)
further m rest j h =
    let e : rest + j ≡ rest / m * m + (rest % m + j) = omega (arith, div-add-mod' rest m) in
    (ap (λ (n : ℕ). n / m) e ∙ digits_div (rest / m) h, ap (λ (n : ℕ). n % m) e ∙ digits_mod (rest / m) h)

-- Over an array, of which the first `rank` members count: the places in front of i have the same quotients for so
-- many slots from `slot` on, and none of their multipliers is 1; j slots on, the quotients from place i on are those
-- of rest + j.
module _ (slot rank : ℕ) (down : List ℕ) where
  pub record Lining (slots rest i : ℕ) : Type 0 where
    pub within : i ≤ rank
    pub some : 0 < slots
    pub left : quotients rest (drop i (take rank down)) ≡ drop i (quotients_by slot rank down)
    pub whole : (j : ℕ) → j < slots → quotients_by (slot + j) rank down ≡ take i (quotients_by slot rank down) ++ quotients (rest + j) (drop i (take rank down))
    pub passed : (k : ℕ) → k < i → get_or down k 0 ≢ 1

  pub lining_first : Lining largest64 slot 0
  lining_first = record { within = omega arith; some = omega arith; left = refl; whole = λ j h. refl; passed = λ k h. absurd (omega arith) }

  module _ (room : rank ≤ length down) {slots rest i : ℕ} (l : Lining slots rest i) (h : i < rank) (pos : 0 < get_or down i 0) where
    abbrev qs : List ℕ
    qs = quotients_by slot rank down

    abbrev m : ℕ
    m = get_or down i 0

    size : length qs ≡ rank
    size = size_quotients slot rank down room

    split : (n : ℕ) → quotients n (drop i (take rank down)) ≡ n / m ∷ quotients (n % m) (drop (suc i) (take rank down))
    split = quotients_split slot rank down room i h

    here : (rest / m ≡ get_or qs i 0) × (quotients (rest % m) (drop (suc i) (take rank down)) ≡ drop (suc i) qs)
    here = quotient_at slot rank down room i h rest l.left

    pub lining_more : m ≢ 1 → Lining (min slots (m - rest % m)) (rest % m) (i + 1)
    lining_more other = record {
      within = omega arith;
      some = omega (arith, l.some, mod-lt rest pos);
      left = rw add-one here.1;
      whole = λ j k.
          let f = further m rest j (omega (arith, mod-lt rest pos)) in
          l.whole j (omega arith) ∙ ap (λ (z : List ℕ). take i qs ++ z) (split (rest + j) ∙ rw (f.0, f.1, here.0) refl)
          ∙ sym (append_assoc (take i qs) (get_or qs i 0 ∷ []) _)
          ∙ ap (λ (z : List ℕ). z ++ quotients (rest % m + j) (drop (suc i) (take rank down))) (sym (take-suc qs i 0 (omega (arith, size))))
          ∙ rw add-one refl;
      passed = λ k j. go k j (ℕ_discrete k i);
    }
      where
        go : (k : ℕ) → k < i + 1 → Dec (k ≡ i) → get_or down k 0 ≢ 1
        go k j (yes e) = λ q. other (sym (ap (λ (z : ℕ). get_or down z 0) e) ∙ q)
        go k j (no n) = l.passed k (let n' : k ≡ i → ⊥ = n in omega arith)

    -- where its multiplier is 1 place i alone changes
    pub line_quotients : m ≡ 1 → (j : ℕ) → j < slots → quotients_by (slot + j) rank down ≡ set qs i (rest + j)
    line_quotients one j k =
        let t : quotients 0 (drop (suc i) (take rank down)) ≡ drop (suc i) qs = rw (one, mod-one rest) at here.1 in
        l.whole j k ∙ ap (λ (z : List ℕ). take i qs ++ z) (split (rest + j) ∙ rw (one, div-one (rest + j), mod-one (rest + j), t) refl)
        ∙ sym (set_split qs i (rest + j) (omega (arith, size)))

    pub line_first : m ≡ 1 → get_or qs i 0 ≡ rest
    line_first one = sym here.0 ∙ rw (one, div-one rest) refl

no_members : (l : List ℕ) → length l ≡ 0 → l ≡ []
no_members [] h = refl
no_members (a ∷ l) h = absurd (omega arith)

-- a member changed in one of two lists
pairwise_set : (f : ℕ → ℕ → ℕ) (l m : List ℕ) (i v : ℕ) → length l ≡ length m → pairwise f (set l i v) m ≡ set (pairwise f l m) i (f v (get_or m i 0))
unfolding pairwise
pairwise_set f [] m i v e = refl
pairwise_set f (a ∷ l) [] i v e = absurd (omega arith)
pairwise_set f (a ∷ l) (b ∷ m) zero v e = refl
pairwise_set f (a ∷ l) (b ∷ m) (suc i) v e = ap (λ (z : List ℕ). f a b ∷ z) (pairwise_set f l m i v (omega arith))

below_at : (l m : List ℕ) (i : ℕ) → below l m ≡ true → i < length l → get_or l i 0 < get_or m i 0
unfolding below every
below_at [] m i h k = absurd (omega arith)
below_at (a ∷ l) [] i h k = absurd (false_true h)
below_at (a ∷ l) (b ∷ m) zero h k = ltb-true a b (both (ltb a b) (below l m) h).0
below_at (a ∷ l) (b ∷ m) (suc i) h k = below_at l m i (both (ltb a b) (below l m) h).1 (omega arith)

below_set : (l m : List ℕ) (i v : ℕ) → below l m ≡ true → v < get_or m i 0 → below (set l i v) m ≡ true
unfolding below every
below_set [] m i v h k = refl
below_set (a ∷ l) [] i v h k = absurd (false_true h)
below_set (a ∷ l) (b ∷ m) zero v h k = rw (lt-ltb v b k) (both (ltb a b) (below l m) h).1
below_set (a ∷ l) (b ∷ m) (suc i) v h k = let t = both (ltb a b) (below l m) h in rw t.0 (below_set l m i v t.1 k)

-- a member changed in the grid's order, at its dimension
back_set : (u : ℕ) (l : List ℕ) (i v : ℕ) → u < length l → i < length l → from_front u (set l i v) ≡ set (from_front u l) (dim_at u i) v
back_set u l i v k h =
    let size = length-set l i v in
    let b = length_back u l (omega arith) in
    let s = length_back u (set l i v) (omega arith) in
    ext_get_or 0 (from_front u (set l i v)) (set (from_front u l) (dim_at u i) v) (omega (arith, length-set (from_front u l) (dim_at u i) v))
    (λ d in-it.
    let p = placed u (length l) d (omega arith) k in
    rw (← p.2) (back_at u p.0 (set l i v) (omega arith) (omega (arith, p.1)) ∙ go p.0 p.1 (ℕ_discrete p.0 i)))
  where
    go : (j : ℕ) → j < length l → Dec (j ≡ i) → get_or (set l i v) j 0 ≡ get_or (set (from_front u l) (dim_at u i) v) (dim_at u j) 0
    go j lt (yes e) =
        rw e (get_or-set_same l i v 0 h ∙ sym (get_or-set_same (from_front u l) (dim_at u i) v 0 (omega (arith, length_back u l (omega arith), dim_lt u (length l) i k h))))
    go j lt (no n) =
        get_or-set_other l i j v 0 n ∙ sym (get_or-set_other (from_front u l) (dim_at u i) (dim_at u j) v 0 (λ q. n (dim_inj u j i q)) ∙ back_at u j l k lt)

-- For a built grid with its numbers, and a slot in the present extents.
module _ (g : Grid) (rank u : ℕ) (chunk down : List ℕ) (n : GridNumbers rank u chunk down g) (numbers : Bool) (bound : List ℕ) (x : Extents rank numbers bound g)
    (slot : ℕ) (h : offsets_of (in_extent g slot) ≡ Ok true) {slots rest i : ℕ} (l : Lining slot rank down slots rest i) where
  b : Accepted g
  b = accepted g n.built

  -- the place that changes
  module _ (k : i < rank) (one : get_or down i 0 ≡ 1) where
    abbrev d : ℕ
    d = dim_at u i

    pub line_dim : d < rank
    line_dim = dim_lt u rank i (omega (arith, leads g rank u chunk down n)) k

    bounds_below : below (quotients_by slot rank down) (in_order rank u bound) ≡ true
    bounds_below = below_is g rank u chunk down n numbers bound x slot ∙ (inside_inv g slot h).2

    bound_here : get_or (in_order rank u bound) i 0 ≡ get_or bound d 0
    bound_here = order_at rank u bound (leads g rank u chunk down n) (bound_room g rank u chunk down n numbers bound x) i k

    room : rank ≤ length down
    room = (rooms g rank u chunk down n).1

    pub line_below : rest < get_or bound d 0
    line_below =
        rw (← bound_here, ← line_first slot rank down room l k (down_pos g rank u chunk down n i k) one)
        (below_at (quotients_by slot rank down) (in_order rank u bound) i bounds_below (omega (arith, size_quotients slot rank down room)))

    quotients_at : (j : ℕ) → j < slots → quotients (slot + j) (multipliers (ordered g)) ≡ set (quotients slot (multipliers (ordered g))) i (rest + j)
    quotients_at j lt = rw (← n.downs) (line_quotients slot rank down room l k (down_pos g rank u chunk down n i k) one j lt)

    chunk_here : get_or (to_front (leading g) g.chunk) i 0 ≡ get_or chunk d 0
    chunk_here =
        let r = n.ranked in
        let e : dim_at (leading g) i ≡ d = ap (λ (v : ℕ). dim_at v i) (sym n.leads) in
        front_at (leading g) i g.chunk (omega (arith, lead g b, b.chunked)) (omega (arith, b.chunked)) ∙ ap (λ (z : ℕ). get_or g.chunk z 0) e
        ∙ sym (chunk_at_lem g rank u chunk down n d line_dim)

    corners : (j : ℕ) → j < slots → offsets g (slot + j) ≡ set (offsets g slot) d ((rest + j) * get_or chunk d 0)
    unfolding offsets
    corners j lt =
        let Q = quotients slot (multipliers (ordered g)) in
        let C = to_front (leading g) g.chunk in
        let r = n.ranked in
        let p = length_products g b slot in
        let e = lead g b in
        ap (λ (z : List ℕ). from_front (leading g) (pairwise ◌*◌ z C)) (quotients_at j lt)
        ∙ ap (from_front (leading g)) (pairwise_set ◌*◌ Q C i (rest + j) (quotients-chunk g b slot))
        ∙ back_set (leading g) (pairwise ◌*◌ Q C) i _ (omega arith) (omega arith)
        ∙ rw (chunk_here, ← n.leads) refl

    insides : (j : ℕ) → j < slots → rest + j < get_or bound d 0 → offsets_of (in_extent g (slot + j)) ≡ Ok true
    insides j lt lies =
        let q : below (quotients_by (slot + j) rank down) (in_order rank u bound) ≡ true =
        rw (line_quotients slot rank down room l k (down_pos g rank u chunk down n i k) one j lt)
        (below_set (quotients_by slot rank down) (in_order rank u bound) i (rest + j) bounds_below (rw bound_here lies)) in
        let p = sym (below_is g rank u chunk down n numbers bound x (slot + j)) ∙ q in
        inside g (slot + j) (inside_inv g slot h).0 (below-fits (offsets g (slot + j)) g.present p x.fits) p

    pub line_at : InLine g chunk slot (record { slots = min slots (get_or bound d 0 - rest); dim = d; first = rest })
    line_at = record {
      some = omega (arith, l.some, line_below);
      within = omega (arith, line_dim, small g rank u chunk down n);
      inside = λ j lt. insides j (omega arith) (omega (arith, line_below));
      fits = λ j lt. offset_fits g rank u chunk down n numbers bound x (rest + j) d line_dim (omega (arith, line_below));
      corner = λ j lt. corners j (omega arith);
    }

  -- A grid of rank 0: its only corner is empty.
  pub line_none : rank ≤ i → InLine g chunk slot (record { slots = 1; dim = 0; first = 0 })
  unfolding multiplier
  line_none end = record {
    some = omega arith;
    within = omega arith;
    inside = λ j lt. let e : slot + j ≡ slot = omega arith in rw e h;
    fits = λ j lt. let e : j ≡ 0 = omega arith in rw e (omega arith);
    corner = λ j lt. empty (slot + j) ∙ sym (ap (λ (z : List ℕ). set z 0 ((0 + j) * get_or chunk 0 0)) (empty slot));
  }
    where
      -- the last place's multiplier is 1
      last : 0 < rank → get_or down (rank - 1) 0 ≡ 1
      last r =
          let e : suc (rank - 1) ≡ rank = omega arith in
          let z = length-ordered g b in
          sym (get_or-take rank down (rank - 1) 0 (omega arith)) ∙ ap (λ (m : List ℕ). get_or m (rank - 1) 0) n.downs
          ∙ multiplier_at (ordered g) (rank - 1) (omega (arith, n.ranked)) ∙ ap multiplier (drop_of_length-le (ordered g) {i = suc (rank - 1)} (omega (arith, n.ranked)))

      nothing : rank ≡ 0
      nothing = ⊎_elim (λ (r : 0 < rank). absurd (l.passed (rank - 1) (omega arith) (last r))) (λ (r : rank ≤ 0). omega arith) (lt_or_ge 0 rank)

      empty : (s : ℕ) → offsets g s ≡ []
      empty s = no_members (offsets g s) (omega (arith, length-offsets g b s, n.ranked, nothing))
