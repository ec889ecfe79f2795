-- The numbering of a grid: quotients of a slot add up to it, and the slot of a slot's offsets is that slot. Assumes
-- nothing.
use Prim.Native.Nat.{ℕ, suc, ◌+◌, ◌-◌, ◌*◌, ◌/◌, ◌%◌, ◌<◌, ◌≤◌, max}
use mathlib.Core.Path.{◌≡◌, refl, sym, ap, subst, ◌∙◌}
use mathlib.Core.Bool.{Bool, true, false, not, cond, ◌&&◌}
use mathlib.Core.List.{List, [], ◌∷◌}
use native.Mathlib.Omega.{arith}
use native.Mathlib.Nat.{pos_of_ne-zero, div-lt_iff_lt-mul, mod-lt, div-add-mod', mul-div_cancel, mul-mod_left, mul-le-mul_right}
use borrow.Author.Tests.{lt-ltb, le-leb, eq-eqb, ne_eqb, ltb-true, ltb-false, leb-true, eqb-true, eqb-false, not-false}
use lib.Dec.{ltb, leb, eqb}
use lib.ListN.{length, drop}
use lib.Arith.{digits_lt, digits_div, digits_mod}
use Rattle.std.specs.Prelude.{Ok, Option, Some}
use Rattle.refusal.proofs.Tests.{refuse_passed, then_passed, by_cond, false_true, both, neither}
use Rattle.refusal.specs.Refusals.{largest64}
use Rattle.chunk_grid.specs.Grid.{Grid, pairwise, every, any, count_of, counts, first_unlimited, leading_in, leading, to_front, from_front, ordered, multiplier, multipliers, has_zero, numbers_nothing, quotients, offsets, below, aligned, is_chunk, total, slot_from, slot_of, shapes_test, grid_test}
use Rattle.chunk_grid.proofs.Order.{back_front, front_back, length_front, length_back, length-pairwise, pairwise_front, pairwise_back, same_drop, any_front}

-- multipliers
pub multiplier_pos : (cs : List ℕ) → 0 < multiplier cs
unfolding multiplier
multiplier_pos [] = omega arith
multiplier_pos (c ∷ cs) =
    let p = multiplier_pos cs in
    let m = mul-le-mul_right (multiplier cs) (one_le c) in
    omega arith
  where
    one_le : (x : ℕ) → 1 ≤ max x 1
    one_le x = omega arith

pub length-multipliers : (cs : List ℕ) → length (multipliers cs) ≡ length cs
unfolding multipliers
length-multipliers [] = refl
length-multipliers (c ∷ cs) = ap suc (length-multipliers cs)

pub length-quotients : (s : ℕ) (ms : List ℕ) → length (quotients s ms) ≡ length ms
unfolding quotients
length-quotients s [] = refl
length-quotients s (m ∷ ms) = ap suc (length-quotients (s % m) ms)

-- the sum of quotients times multipliers
abbrev pub slot_sum : List ℕ → List ℕ → ℕ
slot_sum qs cs = total (pairwise ◌*◌ qs (multipliers cs))

-- the quotients of a slot add up to it
sum_quotients : (s c : ℕ) (cs : List ℕ) → slot_sum (quotients s (multipliers (c ∷ cs))) (c ∷ cs) ≡ s
unfolding total pairwise quotients multipliers multiplier
sum_quotients s c [] = omega arith
sum_quotients s c (d ∷ cs) =
    ap (λ (r : ℕ). s / multiplier (d ∷ cs) * multiplier (d ∷ cs) + r) (sum_quotients (s % multiplier (d ∷ cs)) d cs) ∙ div-add-mod' s (multiplier (d ∷ cs))

-- and lie below the counts where none of these is 0
below-quotients : (s : ℕ) (cs : List ℕ) → s < multiplier cs → has_zero cs ≡ false → below (quotients s (multipliers cs)) cs ≡ true
unfolding below every quotients multipliers multiplier has_zero any
below-quotients s [] h z = refl
below-quotients s (c ∷ cs) h z =
    let y = neither (eqb c 0) (has_zero cs) z in
    let n = eqb-false c 0 y.0 in
    let e : max c 1 ≡ c = (let p = pos_of_ne-zero n in omega arith) in
    let q : s / multiplier cs < c = (div-lt_iff_lt-mul (multiplier_pos cs)).1 (subst (λ (k : ℕ). s < k * multiplier cs) e h) in
    rw (lt-ltb (s / multiplier cs) c q) (below-quotients (s % multiplier cs) cs (mod-lt s (multiplier_pos cs)) y.1)

-- a sum of quotients below their counts lies below the multiplier in front
sum_below : (qs cs : List ℕ) → length qs ≡ length cs → below qs cs ≡ true → slot_sum qs cs < multiplier cs
unfolding below every total pairwise multipliers multiplier
sum_below [] [] h b = omega arith
sum_below [] (c ∷ cs) h b = absurd (omega arith)
sum_below (q ∷ qs) [] h b = absurd (omega arith)
sum_below (q ∷ qs) (c ∷ cs) h b =
    let t = both (ltb q c) (below qs cs) b in
    let lt = ltb-true q c t.0 in
    let e : max c 1 ≡ c = omega arith in
    rw e (digits_lt lt (sum_below qs cs (omega arith) t.1))

below-behind : (qs cs : List ℕ) → below qs cs ≡ true → below (drop 1 qs) (drop 1 cs) ≡ true
unfolding below every
below-behind [] cs b = refl
below-behind (q ∷ qs) [] b = absurd (false_true b)
below-behind (q ∷ qs) (c ∷ cs) b = (both (ltb q c) (below qs cs) b).1

-- the quotients of such a sum; the leading one has no limit of its own
quotients_lead : (qs cs : List ℕ) → length qs ≡ length cs → below (drop 1 qs) (drop 1 cs) ≡ true → quotients (slot_sum qs cs) (multipliers cs) ≡ qs
unfolding total pairwise multipliers quotients
quotients_lead [] [] h b = refl
quotients_lead [] (c ∷ cs) h b = absurd (omega arith)
quotients_lead (q ∷ qs) [] h b = absurd (omega arith)
quotients_lead (q ∷ qs) (c ∷ cs) h b =
    let lt = sum_below qs cs (omega arith) b in
    rw (digits_div q lt, digits_mod q lt) (ap (λ (k : List ℕ). q ∷ k) (quotients_lead qs cs (omega arith) (below-behind qs cs b)))

-- counts that have a quotient below them are not 0
below_zero : (qs cs : List ℕ) → length qs ≡ length cs → below qs cs ≡ true → has_zero cs ≡ false
unfolding below every has_zero any
below_zero [] [] h b = refl
below_zero [] (c ∷ cs) h b = absurd (omega arith)
below_zero (q ∷ qs) [] h b = absurd (omega arith)
below_zero (q ∷ qs) (c ∷ cs) h b =
    let t = both (ltb q c) (below qs cs) b in
    let lt = ltb-true q c t.0 in
    rw (ne_eqb c 0 (λ z. omega arith)) (below_zero qs cs (omega arith) t.1)

-- products by chunk lengths, and back
over_times : (qs cs : List ℕ) → length qs ≡ length cs → has_zero cs ≡ false → pairwise ◌/◌ (pairwise ◌*◌ qs cs) cs ≡ qs
unfolding pairwise has_zero any
over_times [] cs h z = refl
over_times (q ∷ qs) [] h z = absurd (omega arith)
over_times (q ∷ qs) (c ∷ cs) h z =
    let y = neither (eqb c 0) (has_zero cs) z in
    let p = pos_of_ne-zero (eqb-false c 0 y.0) in
    rw (mul-div_cancel q p) (ap (λ (k : List ℕ). q ∷ k) (over_times qs cs (omega arith) y.1))

times_over : (os cs : List ℕ) → aligned os cs ≡ true → pairwise ◌*◌ (pairwise ◌/◌ os cs) cs ≡ os
unfolding pairwise aligned every
times_over [] cs a = refl
times_over (o ∷ os) [] a = absurd (false_true a)
times_over (o ∷ os) (c ∷ cs) a =
    let t = both (eqb (o % c) 0) (aligned os cs) a in
    let e : o / c * c ≡ o = (let d = div-add-mod' o c in let z = eqb-true (o % c) 0 t.0 in omega arith) in
    rw e (ap (λ (k : List ℕ). o ∷ k) (times_over os cs t.1))

aligned_times : (qs cs : List ℕ) → length qs ≡ length cs → aligned (pairwise ◌*◌ qs cs) cs ≡ true
unfolding aligned every pairwise
aligned_times [] cs h = refl
aligned_times (q ∷ qs) [] h = absurd (omega arith)
aligned_times (q ∷ qs) (c ∷ cs) h = rw (eq-eqb (q * c % c) 0 (mul-mod_left q c)) (aligned_times qs cs (omega arith))

-- a chunk: its rank, alignment and extents
pub record Chunk (g : Grid) (corner : List ℕ) : Type 0 where
  pub ranked : length corner ≡ g.rank
  pub multiple : aligned corner g.chunk ≡ true
  pub inside : below corner g.present ≡ true

pub chunk_inv : (g : Grid) (corner : List ℕ) → is_chunk g corner ≡ true → Chunk g corner
unfolding is_chunk
chunk_inv g corner h =
    let a = both (eqb (length corner) g.rank && aligned corner g.chunk) (below corner g.present) h in
    let b = both (eqb (length corner) g.rank) (aligned corner g.chunk) a.0 in
    record { ranked = eqb-true _ _ b.0; multiple = b.1; inside = a.1 }

pub is_chunk_lem : (g : Grid) (corner : List ℕ) → Chunk g corner → is_chunk g corner ≡ true
unfolding is_chunk
is_chunk_lem g corner k = rw (eq-eqb (length corner) g.rank k.ranked, k.multiple, k.inside) refl

-- what shapes of one rank keep to
pub record Shaped (g : Grid) : Type 0 where
  pub small : g.rank ≤ 32
  pub chunked : length g.chunk ≡ g.rank
  pub presented : length g.present ≡ g.rank
  pub bounded : g.has_maximum ≡ true → length g.maximum ≡ g.rank

same_eqb : (a b : ℕ) → not (eqb a b) ≡ false → a ≡ b
same_eqb a b h = eqb-true a b (not-false _ h)

pub shaped : (g : Grid) → Ok tt ≡ shapes_test g → Shaped g
unfolding shapes_test
shaped g h =
    let b = then_passed _ _ h in
    let d = then_passed _ _ b.1 in
    let r = neither (ltb 32 g.rank) (not (eqb (length g.chunk) g.rank)) (refuse_passed _ _ b.0) in
    record {
      small = ltb-false 32 g.rank r.0;
      chunked = same_eqb _ _ r.1;
      presented = same_eqb _ _ (refuse_passed _ _ d.0);
      bounded = λ m. same_eqb _ _ (rw m at (refuse_passed _ _ d.1));
    }

-- what an accepted grid keeps to
pub record Accepted (g : Grid) : Type 0 where
  pub small : g.rank ≤ 32
  pub chunked : length g.chunk ≡ g.rank
  pub presented : length g.present ≡ g.rank
  pub counted : length (counts g) ≡ g.rank
  pub positive : has_zero g.chunk ≡ false

extents_length : (t : Bool) (m p : List ℕ) (n : ℕ) → length p ≡ n → (t ≡ true → length m ≡ n) → length (cond t m p) ≡ n
extents_length true m p n h k = k refl
extents_length false m p n h k = h

pub accepted : (g : Grid) → grid_test g ≡ Ok tt → Accepted g
unfolding grid_test counts
accepted g h =
    let a = then_passed _ _ (sym h) in
    let s = shaped g a.0 in
    let x = extents_length g.has_maximum g.maximum g.present g.rank s.presented s.bounded in
    record {
      small = s.small;
      chunked = s.chunked;
      presented = s.presented;
      counted = length-pairwise count_of _ g.chunk (x ∙ sym s.chunked) ∙ x;
      positive = refuse_passed _ _ (then_passed _ _ a.1).0;
    }

-- the leading dimension is one of them
pub leading_le : (b : Bool) (cs : List ℕ) → leading_in b cs ≤ length cs - 1
unfolding leading_in
leading_le b cs =
    by_cond (λ (u : ℕ). u ≤ length cs - 1) (b && ltb (first_unlimited cs) (length cs))
    (λ t. omega (arith, ltb-true (first_unlimited cs) (length cs) (both b (ltb (first_unlimited cs) (length cs)) t).1)) (λ t. omega arith)

behind : (s c : ℕ) (cs : List ℕ) → has_zero cs ≡ false → below (drop 1 (quotients s (multipliers (c ∷ cs)))) cs ≡ true
unfolding quotients multipliers
behind s c cs z = below-quotients (s % multiplier cs) cs (mod-lt s (multiplier_pos cs)) z

slot_from_lem : (s : ℕ) (cs : List ℕ) → 0 < length cs → has_zero (drop 1 cs) ≡ false → s ≤ largest64 → slot_from (quotients s (multipliers cs)) cs ≡ Some s
unfolding slot_from
slot_from_lem s [] h z l = absurd (omega arith)
slot_from_lem s (c ∷ cs) h z l =
    let b : below (drop 1 (quotients s (multipliers (c ∷ cs)))) cs ≡ true = behind s c cs z in
    rw (sum_quotients s c cs, b, le-leb s largest64 l) refl

slot_from_inv : (qs cs : List ℕ) (s : ℕ) → slot_from qs cs ≡ Some s → (below (drop 1 qs) (drop 1 cs) ≡ true) × (s ≡ slot_sum qs cs) × (s ≤ largest64)
unfolding slot_from
slot_from_inv qs cs s =
    by_cond (λ (x : Option ℕ). x ≡ Some s → (below (drop 1 qs) (drop 1 cs) ≡ true) × (s ≡ slot_sum qs cs) × (s ≤ largest64))
    (below (drop 1 qs) (drop 1 cs) && leb (slot_sum qs cs) largest64)
    (λ t h.
    let b = both (below (drop 1 qs) (drop 1 cs)) (leb (slot_sum qs cs) largest64) t in
    let e : s ≡ slot_sum qs cs = cc in
    let k = leb-true _ _ b.1 in
    (b.0, e, rw e k))
    (λ t h. let z : ◌≡◌ {A = ℕ} 0 1 = cc in absurd (omega arith))

module _ (g : Grid) (b : Accepted g) where
  pub lead : leading g ≤ g.rank - 1
  unfolding leading
  lead = let c = b.counted in let l = leading_le g.unlimited_first (counts g) in omega arith

  pub length-ordered : length (ordered g) ≡ g.rank
  unfolding ordered
  length-ordered = let c = b.counted in let l = lead in length_front (leading g) (counts g) (omega arith) ∙ c

  pub length-chunk : length (to_front (leading g) g.chunk) ≡ g.rank
  length-chunk = length_front (leading g) g.chunk (omega (arith, lead, b.chunked)) ∙ b.chunked

  pub quotients-chunk : (s : ℕ) → length (quotients s (multipliers (ordered g))) ≡ length (to_front (leading g) g.chunk)
  quotients-chunk s = length-quotients s (multipliers (ordered g)) ∙ length-multipliers (ordered g) ∙ length-ordered ∙ sym length-chunk

  pub length_products : (s : ℕ) → length (pairwise ◌*◌ (quotients s (multipliers (ordered g))) (to_front (leading g) g.chunk)) ≡ g.rank
  length_products s = length-pairwise ◌*◌ _ _ (quotients-chunk s) ∙ quotients-chunk s ∙ length-chunk

  pub length-offsets : (s : ℕ) → length (offsets g s) ≡ g.rank
  unfolding offsets
  length-offsets s = length_back (leading g) _ (omega (arith, lead, length_products s)) ∙ length_products s

  pub zero_chunk : has_zero (to_front (leading g) g.chunk) ≡ false
  unfolding has_zero
  zero_chunk = any_front (λ (c : ℕ). eqb c 0) (leading g) g.chunk (omega (arith, lead, b.chunked)) ∙ b.positive

  -- the slot of a slot's offsets is that slot
  pub slot_offsets : (s : ℕ) → 0 < g.rank → numbers_nothing g ≡ false → s ≤ largest64 → slot_of g (offsets g s) ≡ Some s
  unfolding slot_of offsets numbers_nothing
  slot_offsets s r n l =
      let u = leading g in
      let qs = quotients s (multipliers (ordered g)) in
      let ch = to_front u g.chunk in
      let ln = length_products s in
      let ld = lead in
      let lo = length-ordered in
      ap (λ (x : List ℕ). slot_from (pairwise ◌/◌ x ch) (ordered g)) (front_back u (pairwise ◌*◌ qs ch) (omega arith))
      ∙ ap (λ (x : List ℕ). slot_from x (ordered g)) (over_times qs ch (quotients-chunk s) zero_chunk)
      ∙ slot_from_lem s (ordered g) (omega arith) n l

  -- the offsets of a slot below the extents are a chunk
  pub offsets-chunk : (s : ℕ) → below (offsets g s) g.present ≡ true → is_chunk g (offsets g s) ≡ true
  unfolding offsets
  offsets-chunk s h =
      let u = leading g in
      let qs = quotients s (multipliers (ordered g)) in
      let ch = to_front u g.chunk in
      let lc = b.chunked in
      let ld = lead in
      let back : from_front u (pairwise ◌*◌ qs ch) ≡ pairwise ◌*◌ (from_front u qs) g.chunk =
      sym (pairwise_back ◌*◌ u qs ch (quotients-chunk s)) ∙ ap (pairwise ◌*◌ (from_front u qs)) (back_front u g.chunk (omega arith)) in
      let lb : length (from_front u qs) ≡ length g.chunk = length_back u qs (omega (arith, quotients-chunk s, length-chunk)) ∙ quotients-chunk s ∙ length-chunk ∙ sym lc in
      is_chunk_lem g (offsets g s) (record {
        ranked = length-offsets s;
        multiple = rw back (aligned_times (from_front u qs) g.chunk lb);
        inside = h;
      })

  -- the offsets of a chunk's slot are that chunk
  pub offsets_slot : (corner : List ℕ) (s : ℕ) → is_chunk g corner ≡ true → slot_of g corner ≡ Some s → (offsets g s ≡ corner) × (numbers_nothing g ≡ false) × (s ≤ largest64)
  unfolding slot_of offsets numbers_nothing
  offsets_slot corner s a h =
      let ck = chunk_inv g corner a in
      let u = leading g in
      let ch = to_front u g.chunk in
      let qs = pairwise ◌/◌ (to_front u corner) ch in
      let i = slot_from_inv qs (ordered g) s h in
      let lc : length corner ≡ length g.chunk = ck.ranked ∙ sym b.chunked in
      let inside : u ≤ length corner - 1 = omega (arith, lead, ck.ranked) in
      let lf : length (to_front u corner) ≡ g.rank = length_front u corner inside ∙ ck.ranked in
      let lq : length qs ≡ length (ordered g) = length-pairwise ◌/◌ (to_front u corner) ch (lf ∙ sym length-chunk) ∙ lf ∙ sym length-ordered in
      let q : quotients s (multipliers (ordered g)) ≡ qs = ap (λ (x : ℕ). quotients x (multipliers (ordered g))) i.1 ∙ quotients_lead qs (ordered g) lq i.0 in
      let back : pairwise ◌*◌ qs ch ≡ to_front u corner =
      ap (λ (x : List ℕ). pairwise ◌*◌ x ch) (pairwise_front ◌/◌ u corner g.chunk lc)
      ∙ pairwise_front ◌*◌ u (pairwise ◌/◌ corner g.chunk) g.chunk (length-pairwise ◌/◌ corner g.chunk lc ∙ lc)
      ∙ ap (to_front u) (times_over corner g.chunk ck.multiple) in (
        ap (λ (x : List ℕ). from_front u (pairwise ◌*◌ x ch)) q ∙ ap (from_front u) back ∙ back_front u corner inside,
        below_zero (drop 1 qs) (drop 1 (ordered g)) (same_drop 1 qs (ordered g) lq) i.0,
        i.2,
      )
