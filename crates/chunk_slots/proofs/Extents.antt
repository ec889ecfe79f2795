-- The offsets of a slot, place by place: what a turn of the loop keeps, and what it comes to for the grid. Assumes
-- nothing.
use Prim.Native.Nat.{ℕ, suc, ◌+◌, ◌-◌, ◌*◌, ◌/◌, ◌%◌, ◌<◌, ◌≤◌}
use mathlib.Core.Path.{◌≡◌, refl, sym, ap, ◌∙◌}
use mathlib.Core.Bool.{Bool, true, false, cond, ◌&&◌, ◌||◌, and_assoc, or_assoc, and-true, or-false}
use mathlib.Core.List.{List, [], ◌∷◌}
use mathlib.Core.Logic.{⊎_elim}
use native.Mathlib.Nat.{pos_of_ne-zero, le-div_iff_mul-le}
use native.Mathlib.Numerals.{add-one}
use native.Mathlib.Omega.{arith}
use borrow.Author.Tests.{lt-ltb, le-ltb, ltb-true, ltb-false, eqb-false, not-true, not-false}
use lib.Dec.{ltb, eqb}
use lib.ListN.{length, get_or, take, drop, set, length-take, drop_of_length-le}
use lib.Seq.{drop-cons, get_or-take}
use Rattle.std.specs.Prelude.{Err, None, Ok, Some}
use Rattle.refusal.specs.declared.Refusal.TheVariants.{NumbersNothing, OffsetOverflow}
use Rattle.refusal.specs.Refusals.{largest64, refuse, ◌then◌, Outcome}
use Rattle.refusal.specs.Outcome.{◌yields◌}
use Rattle.chunk_grid.specs.Grid.{Grid, pairwise, every, any, ceil_div, leading, to_front, ordered, multipliers, has_zero, numbers_nothing, quotients, offsets, overflows, below, offsets_test}
use Rattle.chunk_grid.specs.Values.{dim_at, GridNumbers, Extents, in_extent, offsets_of}
use Rattle.chunk_slots.specs.Values.{shown, handed}
use Rattle.refusal.proofs.Tests.{lt_or_ge, neither}
use Rattle.chunk_grid.proofs.Order.{front_back, length_front, length-pairwise, pairwise_front, every_front, any_front}
use Rattle.chunk_grid.proofs.Grids.{Accepted, accepted, lead, length-ordered, length-chunk, multiplier_pos, length-multipliers, length-quotients, quotients-chunk, length_products, length-offsets, zero_chunk}
use Rattle.chunk_grid.proofs.Members.{get_d_pairwise, any_at, multiplier_at}
use Rattle.chunk_grid.proofs.Places.{dim_lt, front_at, in_order, length_order, order_at, Stored, stored_none, stored_more, stored_all}

-- an offset lies below an extent where the quotient lies below the extent's chunks
pub ceil_lt : (q c e : ℕ) → 0 < c → ltb (q * c) e ≡ ltb q (ceil_div e c)
unfolding ceil_div
ceil_lt q c e pos =
    ⊎_elim (λ (h : q * c < e). lt-ltb (q * c) e h ∙ sym (lt-ltb q ((e + (c - 1)) / c) ((le-div_iff_mul-le pos).1 (omega arith))))
    (λ (h : e ≤ q * c). le-ltb (q * c) e h ∙ sym (le-ltb q ((e + (c - 1)) / c) (not_more h))) (lt_or_ge (q * c) e)
  where
    not_more : e ≤ q * c → (e + (c - 1)) / c ≤ q
    not_more h =
        ⊎_elim (λ (m : q < (e + (c - 1)) / c). let k : suc q * c ≤ e + (c - 1) = (le-div_iff_mul-le pos).0 m in absurd (omega arith))
        (λ (m : (e + (c - 1)) / c ≤ q). m) (lt_or_ge q ((e + (c - 1)) / c))

pub below_ceil : (qs cs es : List ℕ) → length qs ≡ length cs → length es ≡ length cs → has_zero cs ≡ false → below (pairwise ◌*◌ qs cs) es ≡ below qs (pairwise ceil_div es cs)
unfolding below every pairwise has_zero any
below_ceil [] cs es h k z = refl
below_ceil (q ∷ qs) [] es h k z = absurd (omega arith)
below_ceil (q ∷ qs) (c ∷ cs) [] h k z = absurd (omega arith)
below_ceil (q ∷ qs) (c ∷ cs) (e ∷ es) h k z =
    let y = neither (eqb c 0) (has_zero cs) z in
    let t = ceil_lt q c e (pos_of_ne-zero (eqb-false c 0 y.0)) in
    let r = below_ceil qs cs es (omega arith) (omega arith) y.1 in
    rw (t, r) refl

-- Over arrays, of which the first `rank` members count: the quotients of a slot, and what is stored for a place.
abbrev pub quotients_by : ℕ → ℕ → List ℕ → List ℕ
quotients_by slot rank down = quotients slot (take rank down)

abbrev pub value_at : List ℕ → ℕ → List ℕ → List ℕ → ℕ → ℕ
value_at qs u chunk bound j = cond (ltb (get_or qs j 0) (get_or bound (dim_at u j) 0)) (get_or qs j 0 * get_or chunk (dim_at u j) 0) 0

-- A place's quotient of a number, and those behind it.
module _ (slot rank : ℕ) (down : List ℕ) (room : rank ≤ length down) where
  size_down : length (take rank down) ≡ rank
  size_down = length-take rank down ∙ omega arith

  pub size_quotients : length (quotients_by slot rank down) ≡ rank
  size_quotients = length-quotients slot (take rank down) ∙ size_down

  module _ (i : ℕ) (h : i < rank) where
    pub quotients_split : (n : ℕ) → quotients n (drop i (take rank down)) ≡ n / get_or down i 0 ∷ quotients (n % get_or down i 0) (drop (suc i) (take rank down))
    unfolding quotients
    quotients_split n = rw (drop-cons (take rank down) i 0 (omega (arith, size_down)), get_or-take rank down i 0 h) refl

    -- where n is what is left of the slot there
    pub quotient_at : (n : ℕ) → quotients n (drop i (take rank down)) ≡ drop i (quotients_by slot rank down)
        → (n / get_or down i 0 ≡ get_or (quotients_by slot rank down) i 0) × (quotients (n % get_or down i 0) (drop (suc i) (take rank down)) ≡ drop (suc i) (quotients_by slot rank down))
    quotient_at n e =
        let f = sym (quotients_split n) ∙ e ∙ drop-cons (quotients_by slot rank down) i 0 (omega (arith, size_quotients)) in
        let head : n / get_or down i 0 ≡ get_or (quotients_by slot rank down) i 0 = cc f in
        let tail : quotients (n % get_or down i 0) (drop (suc i) (take rank down)) ≡ drop (suc i) (quotients_by slot rank down) = cc f in
        (head, tail)

-- What the loop of a slot's offsets has before place i.
module _ (slot rank u : ℕ) (chunk bound down : List ℕ) where
  abbrev qs : List ℕ
  qs = quotients_by slot rank down

  pub record Turn (l out : List ℕ) (rest : ℕ) (inside over : Bool) (i : ℕ) : Type 0 where
    pub within : i ≤ rank
    pub left : quotients rest (drop i (take rank down)) ≡ drop i qs
    pub lies : inside && below (drop i qs) (drop i (in_order rank u bound)) ≡ below qs (in_order rank u bound)
    pub past : over || overflows (pairwise ◌*◌ (drop i qs) (drop i (in_order rank u chunk))) ≡ overflows (pairwise ◌*◌ qs (in_order rank u chunk))
    pub stored : Stored u i (value_at qs u chunk bound) l out

  pub turn_first : (l : List ℕ) → Turn l l slot true false 0
  turn_first l = record { within = omega arith; left = refl; lies = refl; past = refl; stored = stored_none u (value_at qs u chunk bound) l }

  module _ (leads : u ≤ rank - 1) (rooms : (rank ≤ length chunk) × (rank ≤ length bound) × (rank ≤ length down)) where
    abbrev many : length qs ≡ rank
    many = size_quotients slot rank down rooms.2

    module _ (l out : List ℕ) (rest : ℕ) (inside over : Bool) (i : ℕ) (t : Turn l out rest inside over i) (h : i < rank) where
      abbrev q : ℕ
      q = rest / get_or down i 0

      pub turn_more : Turn l (set out (dim_at u i) (cond (ltb q (get_or bound (dim_at u i) 0)) (q * get_or chunk (dim_at u i) 0) 0)) (rest % get_or down i 0)
          (inside && ltb q (get_or bound (dim_at u i) 0)) (over || ltb largest64 (q * get_or chunk (dim_at u i) 0)) (i + 1)
      unfolding below every overflows any pairwise
      turn_more =
          let z = quotient_at slot rank down rooms.2 i h rest t.left in
          let dq = drop-cons qs i 0 (omega (arith, many)) in
          let db = drop-cons (in_order rank u bound) i 0 (omega (arith, length_order rank u bound leads rooms.1)) in
          let dc = drop-cons (in_order rank u chunk) i 0 (omega (arith, length_order rank u chunk leads rooms.0)) in
          let b = order_at rank u bound leads rooms.1 i h in
          let c = order_at rank u chunk leads rooms.0 i h in
          record {
            within = omega arith;
            left = rw add-one z.1;
            lies = rw (add-one, z.0, ← b) (and_assoc inside (ltb (get_or qs i 0) (get_or (in_order rank u bound) i 0)) _ ∙ (rw (dq, db) at t.lies));
            past = rw (add-one, z.0, ← c) (or_assoc over (ltb largest64 (get_or qs i 0 * get_or (in_order rank u chunk) i 0)) _ ∙ (rw (dq, dc) at t.past));
            stored = stored_more u i (value_at qs u chunk bound) l out _ t.stored (rw z.0 refl);
          }

-- the answer for a grid that numbers something
abbrev pub answered : Bool → Bool → Outcome Bool
answered over inside = cond over (Err OffsetOverflow) (Ok inside)

picked : (over inside : Bool) (l : List ℕ) → answered over inside ≡ offsets_of (refuse OffsetOverflow over yields Ok (cond inside (Some l) None))
unfolding offsets_of ◌yields◌ refuse
picked true inside l = refl
picked false true l = refl
picked false false l = refl

-- For a built grid with its numbers.
module _ (g : Grid) (rank u : ℕ) (chunk down : List ℕ) (n : GridNumbers rank u chunk down g) where
  b : Accepted g
  b = accepted g n.built

  pub small : rank ≤ 32
  small = omega (arith, b.small, n.ranked)

  pub leads : u ≤ rank - 1
  leads = let l = lead g b in let r = n.ranked in rw n.leads (omega arith)

  pub rooms : (rank ≤ length chunk) × (rank ≤ length down)
  rooms =
      let r = n.ranked in (
        omega (arith, sym (length-take rank chunk) ∙ ap length n.chunks ∙ b.chunked),
        omega (arith, sym (length-take rank down) ∙ ap length n.downs ∙ length-multipliers (ordered g) ∙ length-ordered g b),
      )

  -- members of the arrays, as the grid has them
  pub chunk_at_lem : (d : ℕ) → d < rank → get_or chunk d 0 ≡ get_or g.chunk d 0
  chunk_at_lem d h = sym (get_or-take rank chunk d 0 h) ∙ ap (λ (m : List ℕ). get_or m d 0) n.chunks

  pub chunk_pos : (d : ℕ) → d < rank → 0 < get_or chunk d 0
  unfolding has_zero
  chunk_pos d h =
      rw (chunk_at_lem d h) (pos_of_ne-zero (eqb-false _ 0 (any_at (λ (c : ℕ). eqb c 0) g.chunk d b.positive (omega (arith, b.chunked, n.ranked)))))

  pub down_pos : (i : ℕ) → i < rank → 0 < get_or down i 0
  down_pos i h =
      let e = sym (get_or-take rank down i 0 h) ∙ ap (λ (m : List ℕ). get_or m i 0) n.downs ∙ multiplier_at (ordered g) i (omega (arith, length-ordered g b, n.ranked)) in
      rw e (multiplier_pos _)

  -- a place among the multipliers of the grid's dimensions, and the end of them
  pub place_at : (i : ℕ) → i < length (take rank down) → i < rank
  place_at i h = omega (arith, length-take rank down, rooms.1)

  pub place_end : (i : ℕ) → length (take rank down) ≤ i → rank ≤ i
  place_end i h = omega (arith, length-take rank down, rooms.1)

  pub down_at : (i : ℕ) → i < length (take rank down) → get_or (take rank down) i 0 ≡ get_or down i 0
  down_at i h = get_or-take rank down i 0 (place_at i h)

  pub chunk_are : in_order rank u chunk ≡ to_front (leading g) g.chunk
  chunk_are = rw (n.chunks, n.leads) refl

  module _ (numbers : Bool) (bound : List ℕ) (x : Extents rank numbers bound g) where
    bound_at : (d : ℕ) → d < rank → get_or bound d 0 ≡ ceil_div (get_or g.present d 0) (get_or chunk d 0)
    bound_at d h =
        sym (get_or-take rank bound d 0 h) ∙ ap (λ (m : List ℕ). get_or m d 0) x.bounds
        ∙ get_d_pairwise ceil_div g.present g.chunk d (b.presented ∙ sym b.chunked) (omega (arith, b.presented, n.ranked))
        ∙ ap (ceil_div (get_or g.present d 0)) (sym (chunk_at_lem d h))

    pub bound_room : rank ≤ length bound
    bound_room = omega (arith, sym (length-take rank bound) ∙ ap length x.bounds ∙ length-pairwise ceil_div _ _ (b.presented ∙ sym b.chunked) ∙ b.presented, n.ranked)

    -- an offset whose quotient is below its bound fits 64 bits
    pub offset_fits : (q d : ℕ) → d < rank → q < get_or bound d 0 → q * get_or chunk d 0 ≤ largest64
    unfolding overflows
    offset_fits q d h lt =
        let p = ltb-false largest64 (get_or g.present d 0) (any_at (ltb largest64) g.present d x.fits (omega (arith, b.presented, n.ranked))) in
        let t = ceil_lt q (get_or chunk d 0) (get_or g.present d 0) (chunk_pos d h) ∙ lt-ltb q (ceil_div (get_or g.present d 0) (get_or chunk d 0)) (rw (← bound_at d h) lt) in
        omega (arith, ltb-true (q * get_or chunk d 0) (get_or g.present d 0) t)

    module _ (slot : ℕ) where
      abbrev Q : List ℕ
      Q = quotients slot (multipliers (ordered g))

      abbrev C : List ℕ
      C = to_front (leading g) g.chunk

      pub quotients_are : quotients_by slot rank down ≡ Q
      quotients_are = ap (quotients slot) n.downs

      pub bound_are : in_order rank u bound ≡ to_front (leading g) (pairwise ceil_div g.present g.chunk)
      bound_are = rw (x.bounds, n.leads) refl

      front_offsets : to_front (leading g) (offsets g slot) ≡ pairwise ◌*◌ Q C
      unfolding offsets
      front_offsets = front_back (leading g) (pairwise ◌*◌ Q C) (omega (arith, lead g b, length_products g b slot))

      overflow_is : overflows (pairwise ◌*◌ (quotients_by slot rank down) (in_order rank u chunk)) ≡ overflows (offsets g slot)
      unfolding overflows
      overflow_is =
          rw (quotients_are, chunk_are) (ap (any (ltb largest64)) (sym front_offsets)
          ∙ any_front (ltb largest64) (leading g) (offsets g slot) (omega (arith, lead g b, length-offsets g b slot)))

      pub below_is : below (quotients_by slot rank down) (in_order rank u bound) ≡ below (offsets g slot) g.present
      unfolding below
      below_is =
          let p = b.presented in
          let c = b.chunked in
          let l = lead g b in
          rw (quotients_are, bound_are) (ap (below Q) (sym (pairwise_front ceil_div (leading g) g.present g.chunk (p ∙ sym c)))
          ∙ sym (below_ceil Q C (to_front (leading g) g.present) (quotients-chunk g b slot) (length_front (leading g) g.present (omega arith) ∙ p ∙ sym (length-chunk g b)) (zero_chunk g b))
          ∙ ap (λ (m : List ℕ). below m (to_front (leading g) g.present)) (sym front_offsets)
          ∙ every_front ltb (leading g) (offsets g slot) g.present (length-offsets g b slot ∙ sym p) (omega (arith, length-offsets g b slot)))

      -- what is handed over, at each place's dimension
      shown_at : (j : ℕ) → j < rank → get_or (shown g slot) (dim_at u j) 0 ≡ value_at (quotients_by slot rank down) u chunk bound j
      unfolding shown
      shown_at j h =
          let d = dim_at u j in
          let lt : d < rank = dim_lt u rank j (omega (arith, leads)) h in
          let lo = length-offsets g b slot in
          let r = n.ranked in
          let l = lead g b in
          let e : dim_at (leading g) j ≡ d = ap (λ (v : ℕ). dim_at v j) (sym n.leads) in
          let c : get_or C j 0 ≡ get_or chunk d 0 = front_at (leading g) j g.chunk (omega (arith, b.chunked)) (omega (arith, b.chunked)) ∙ ap (λ (k : ℕ). get_or g.chunk k 0) e ∙ sym (chunk_at_lem d lt) in
          let q : get_or Q j 0 ≡ get_or (quotients_by slot rank down) j 0 = ap (λ (m : List ℕ). get_or m j 0) (sym quotients_are) in
          let o : get_or (offsets g slot) d 0 ≡ get_or (quotients_by slot rank down) j 0 * get_or chunk d 0 =
          ap (λ (k : ℕ). get_or (offsets g slot) k 0) (sym e) ∙ sym (front_at (leading g) j (offsets g slot) (omega arith) (omega arith))
          ∙ ap (λ (m : List ℕ). get_or m j 0) front_offsets ∙ get_d_pairwise ◌*◌ Q C j (quotients-chunk g b slot) (omega (arith, quotients-chunk g b slot, length-chunk g b)) ∙ rw (q, c) refl in
          get_d_pairwise _ (offsets g slot) g.present d (lo ∙ sym b.presented) (omega arith)
          ∙ rw (o, bound_at d lt) (ap (λ (t : Bool). cond t (get_or (quotients_by slot rank down) j 0 * get_or chunk d 0) 0) (ceil_lt (get_or (quotients_by slot rank down) j 0) (get_or chunk d 0) (get_or g.present d 0) (chunk_pos d lt)))

      -- The answer, from what the loop has behind the last place.
      module _ (numbering : numbers ≡ true) (l out : List ℕ) (rest : ℕ) (inside over : Bool) (i : ℕ) (t : Turn slot rank u chunk bound down l out rest inside over i) (end : rank ≤ i) where
        numbered : numbers_nothing g ≡ false
        numbered = not-true _ (sym x.numbering ∙ numbering)

        none_left : drop i (quotients_by slot rank down) ≡ []
        none_left = drop_of_length-le (quotients_by slot rank down) {i = i} (omega (arith, ap length quotients_are ∙ quotients-chunk g b slot ∙ length-chunk g b, n.ranked))

        past_is : over ≡ overflows (offsets g slot)
        unfolding overflows any pairwise
        past_is = sym (or-false over) ∙ (rw none_left at t.past) ∙ overflow_is

        lies_is : inside ≡ below (offsets g slot) g.present
        unfolding below every
        lies_is = sym (and-true inside) ∙ (rw none_left at t.lies) ∙ below_is

        handed_is : out ≡ handed g slot l
        unfolding handed shown
        handed_is =
            let e : i ≡ rank = omega (arith, t.within) in
            let size : length (shown g slot) ≡ rank = length-pairwise _ (offsets g slot) g.present (length-offsets g b slot ∙ sym b.presented) ∙ length-offsets g b slot ∙ sym n.ranked in
            rw numbered (stored_all u rank (value_at (quotients_by slot rank down) u chunk bound) l out (shown g slot) leads size shown_at (rw e at t.stored))

        pub turned : (answered over inside ≡ offsets_of (in_extent g slot)) × (out ≡ handed g slot l)
        unfolding in_extent offsets_test refuse ◌then◌
        turned = (rw (numbered, ← past_is, ← lies_is) (picked over inside (offsets g slot)), handed_is)

      -- A grid that numbers nothing.
      pub unnumbered : numbers ≡ false → (l : List ℕ) → (Err NumbersNothing ≡ offsets_of (in_extent g slot)) × (l ≡ handed g slot l)
      unfolding in_extent offsets_test offsets_of ◌yields◌ handed refuse ◌then◌
      unnumbered e l = let z : numbers_nothing g ≡ true = not-false _ (sym x.numbering ∙ e) in (rw z refl, rw z refl)
