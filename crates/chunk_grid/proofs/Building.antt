-- What the loops that build a grid have at each turn. Assumes nothing.
use Prim.Native.Nat.{ℕ, zero, suc, ◌+◌, ◌-◌, ◌*◌, ◌/◌, ◌%◌, ◌^◌, ◌<◌, ◌≤◌, min, max}
use mathlib.Core.Path.{◌≡◌, refl, sym, ap, ◌∙◌}
use mathlib.Core.Bool.{Bool, true, false, not, ◌&&◌, ◌||◌}
use mathlib.Core.List.{List, [], ◌∷◌}
use native.Mathlib.Decide.{ℕ_discrete}
use native.Mathlib.Nat.{mul_comm, pos_of_ne-zero, div-add-mod', mod-lt}
use native.Mathlib.Numerals.{add-one}
use native.Mathlib.Omega.{arith}
use borrow.Author.Tests.{eq-eqb, ne_eqb, eqb-false, lt-ltb, le-ltb, ltb-false}
use lib.Arith.{digits_div}
use lib.Dec.{eqb, ltb}
use lib.ListN.{length, get_or, take, drop, set, length-set, drop_of_length-le}
use lib.Seq.{drop-cons, drop-drop, take_all, get_or-set_same, get_or-set_other, ext_get_or}
use Rattle.std.specs.Prelude.{Err, None, Ok, Option, Some}
use Rattle.std.specs.Option.{MatchOption, SomeIff, ok_or, unwrap_or}
use Rattle.std.specs.List.{AllWithin, HoldsAt}
use Rattle.std.proofs.Common.{◌≢◌}
use Rattle.refusal.specs.declared.Refusal.TheVariants.{MaximumRank, PresentRank, Rank, TooManyChunks, Unlimited}
use mathlib.Core.Logic.{⊎_elim}
use Rattle.refusal.proofs.Tests.{lt_or_ge, refuse_passed, then_passed}
use Rattle.refusal.specs.declared.Refusal.{Refusal}
use Rattle.refusal.specs.Refusals.{largest64, refuse, ◌then◌}
use Rattle.chunk_grid.specs.Grid.{pairwise, any, ceil_div, first_unlimited, leading_in, to_front, multiplier, multipliers, has_zero, shapes_test, multiplier_test, product_test, given}
use Rattle.chunk_grid.specs.declared.GridOrder.{GridOrder}
use Rattle.chunk_grid.proofs.Order.{front_nil, length-pairwise}
use Rattle.chunk_grid.proofs.Members.{take_more, get_d_pairwise, any_at, multiplier_at}
use Rattle.chunk_grid.proofs.Grids.{length-multipliers}

-- lists of one length, of which the first i members are combined
module _ (f : ℕ → ℕ → ℕ) (l m out : List ℕ) (i : ℕ) (same : length l ≡ length m) (size : length out ≡ length m) (stored : take i out ≡ take i (pairwise f l m)) where
  pub paired_more : i < length m → (v : ℕ) → v ≡ f (get_or l i 0) (get_or m i 0) → take (i + 1) (set out i v) ≡ take (i + 1) (pairwise f l m)
  paired_more h v is =
      take_more (pairwise f l m) out i v stored (omega arith) (omega (arith, length-pairwise f l m same)) (is ∙ sym (get_d_pairwise f l m i same (omega arith)))

  pub paired_all : length m ≤ i → out ≡ pairwise f l m
  paired_all h =
      sym (take_all i out (omega arith)) ∙ stored ∙ take_all i (pairwise f l m) (omega (arith, length-pairwise f l m same))

-- no member of such a list is 0
pub none_zero : (l : List ℕ) (i : ℕ) → has_zero l ≡ false → i < length l → 0 < get_or l i 0
unfolding has_zero
none_zero l i e h = pos_of_ne-zero (eqb-false (get_or l i 0) 0 (any_at (λ (n : ℕ). eqb n 0) l i e h))

-- rounding up, as std says it
pub rounded_up : (a b : ℕ) → 0 < b → a / b + min 1 (a % b) ≡ ceil_div a b
unfolding ceil_div
rounded_up a b pos =
    let d = div-add-mod' a b in
    let lt = mod-lt a pos in
    go (ℕ_discrete (a % b) 0) d lt
  where
    go : Dec (a % b ≡ 0) → a / b * b + a % b ≡ a → a % b < b → a / b + min 1 (a % b) ≡ (a + (b - 1)) / b
    go (yes e) d lt =
        let s : a + (b - 1) ≡ a / b * b + (b - 1) = omega arith in
        let t : a / b + min 1 (a % b) ≡ a / b = omega arith in
        t ∙ rw s (sym (digits_div (a / b) (omega arith)))
    go (no n) d lt =
        let r = pos_of_ne-zero n in
        let s : a + (b - 1) ≡ (a / b + 1) * b + (a % b - 1) = omega arith in
        let t : a / b + min 1 (a % b) ≡ a / b + 1 = omega arith in
        t ∙ rw s (sym (digits_div (a / b + 1) (omega arith)))

-- the first unlimited dimension, where it is found ..
first_at : (l : List ℕ) (i : ℕ) → i < length l → get_or l i 0 ≡ largest64 → ((k : ℕ) → k < i → get_or l k 0 ≡ largest64 → ⊥) → first_unlimited l ≡ i
unfolding first_unlimited
first_at [] i h e n = absurd (omega arith)
first_at (c ∷ l) zero h e n = rw (eq-eqb c largest64 e) refl
first_at (c ∷ l) (suc i) h e n = rw (ne_eqb c largest64 (n 0 (omega arith)), first_at l i (omega arith) e (λ k lt. n (suc k) (omega arith))) refl

pub leads_at : (cs : List ℕ) (i : ℕ) → i < length cs → get_or cs i 0 ≡ largest64 → ((k : ℕ) → k < i → get_or cs k 0 ≡ largest64 → ⊥)
    → i ≡ leading_in true cs
unfolding leading_in
leads_at cs i h e n = let f = first_at cs i h e n in simp (f, lt-ltb i (length cs) h)

-- .. and where there is none
first_none : (l : List ℕ) → ((k : ℕ) → k < length l → get_or l k 0 ≡ largest64 → ⊥) → first_unlimited l ≡ length l
unfolding first_unlimited
first_none [] n = refl
first_none (c ∷ l) n = rw (ne_eqb c largest64 (n 0 (omega arith)), first_none l (λ k lt. n (suc k) (omega arith))) refl

pub leads_none : (cs : List ℕ) → ((k : ℕ) → k < length cs → get_or cs k 0 ≡ largest64 → ⊥) → 0 ≡ leading_in true cs
unfolding leading_in
leads_none cs n = let f = first_none cs n in simp (f, le-ltb (length cs) (length cs) (omega arith))

-- the two cases, as std says what a search finds
pub leads_found : (cs : List ℕ) (found : Option ℕ) → MatchOption found (AllWithin (λ x. x ≢ largest64) cs 0 (length cs))
    (λ i. (i < length cs) × HoldsAt (λ x. x ≡ largest64) cs i × AllWithin (λ x. x ≢ largest64) cs 0 i)
    → unwrap_or found 0 ≡ leading_in true cs
leads_found cs (Some i) h = leads_at cs i h.0 (h.1 0) (λ k lt. h.2 k 0 (omega arith) lt)
leads_found cs None h = leads_none cs (λ k lt. h k 0 (omega arith) lt)

-- the lengths of the shapes
module _ (rank : ℕ) (chunk present maximum : List ℕ) (o : GridOrder) where
  pub rank_over : (has : Bool) → 32 < rank → Err Rank ≡ shapes_test (given rank chunk present has maximum o)
  unfolding shapes_test given refuse ◌then◌
  rank_over has h = simp (lt-ltb 32 rank h)

  module _ (small : rank ≤ 32) where
    pub rank_differs : (has : Bool) → (length chunk ≡ rank → ⊥) → Err Rank ≡ shapes_test (given rank chunk present has maximum o)
    unfolding shapes_test given refuse ◌then◌
    rank_differs has n = simp (le-ltb 32 rank small, ne_eqb (length chunk) rank n)

    module _ (c : length chunk ≡ rank) where
      pub present_differs : (has : Bool) → (length present ≡ rank → ⊥) → Err PresentRank ≡ shapes_test (given rank chunk present has maximum o)
      unfolding shapes_test given refuse ◌then◌
      present_differs has n = simp (le-ltb 32 rank small, eq-eqb (length chunk) rank c, ne_eqb (length present) rank n)

      module _ (p : length present ≡ rank) where
        pub maximum_differs : (length maximum ≡ rank → ⊥) → Err MaximumRank ≡ shapes_test (given rank chunk present true maximum o)
        unfolding shapes_test given refuse ◌then◌
        maximum_differs n = simp (le-ltb 32 rank small, eq-eqb (length chunk) rank c, eq-eqb (length present) rank p, ne_eqb (length maximum) rank n)

        pub shapes_agree : (has : Bool) → (has ≡ true → length maximum ≡ rank) → Ok tt ≡ shapes_test (given rank chunk present has maximum o)
        unfolding shapes_test given refuse ◌then◌
        shapes_agree true m = simp (le-ltb 32 rank small, eq-eqb (length chunk) rank c, eq-eqb (length present) rank p, eq-eqb (length maximum) rank (m refl))
        shapes_agree false m = simp (le-ltb 32 rank small, eq-eqb (length chunk) rank c, eq-eqb (length present) rank p)

-- the product of the counts
module _ (p i : ℕ) (l : List ℕ) where
  pub product_end : length l ≤ i → product_test p (drop i l) ≡ Ok tt
  unfolding product_test
  product_end h = rw (drop_of_length-le l {i = i} h) refl

  module _ (h : i < length l) where
    pub product-unlimited : get_or l i 0 ≡ largest64 → product_test p (drop i l) ≡ Ok tt
    unfolding product_test
    product-unlimited e = rw (drop-cons l i 0 h, eq-eqb (get_or l i 0) largest64 e) refl

    pub product_over : (get_or l i 0 ≡ largest64 → ⊥) → largest64 < p * get_or l i 0 → product_test p (drop i l) ≡ Err TooManyChunks
    unfolding product_test refuse ◌then◌
    product_over n k = rw (drop-cons l i 0 h, ne_eqb (get_or l i 0) largest64 n, lt-ltb largest64 (p * get_or l i 0) k) refl

    pub product_on : (get_or l i 0 ≡ largest64 → ⊥) → p * get_or l i 0 ≤ largest64 → product_test p (drop i l) ≡ product_test (p * get_or l i 0) (drop (i + 1) l)
    unfolding product_test refuse ◌then◌
    product_on n k = rw (drop-cons l i 0 h, ne_eqb (get_or l i 0) largest64 n, le-ltb largest64 (p * get_or l i 0) k, add-one) refl

-- a product, where 64 bits hold it, and else the refusal
pub taken : (r : Option ℕ) (n v : ℕ) → SomeIff r (n < 2 ^ 64) n → ok_or r TooManyChunks ≡ Ok v → (n ≤ largest64) × (v ≡ n)
taken None n v s e = let z : ◌≡◌ {A = ℕ} 0 1 = cc in absurd (omega arith)
taken (Some w) n v s e = (omega (arith, s.0), (let k : v ≡ w = cc in k ∙ s.1))

pub too_many : (r : Option ℕ) (n : ℕ) (q : Refusal) → SomeIff r (n < 2 ^ 64) n → ok_or r TooManyChunks ≡ Err q → (largest64 < n) × (q ≡ TooManyChunks)
too_many None n q s e = (⊎_elim (λ (lt : largest64 < n). lt) (λ (le : n ≤ largest64). absurd (s (omega arith))) (lt_or_ge largest64 n), cc)
too_many (Some w) n q s e = let z : ◌≡◌ {A = ℕ} 0 1 = cc in absurd (omega arith)

-- the counts from one place earlier on, and the multiplier in front of them
module _ (cs : List ℕ) (i : ℕ) (low : 0 < i) (high : i ≤ length cs) where
  abbrev pub count : ℕ
  count = get_or cs (i - 1) 0

  before : drop (i - 1) cs ≡ count ∷ drop i cs
  before = let e : suc (i - 1) ≡ i = omega arith in drop-cons cs (i - 1) 0 (omega arith) ∙ ap (λ (k : ℕ). count ∷ drop k cs) e

  multiplier-before : multiplier (drop i cs) * max count 1 ≡ multiplier (drop (i - 1) cs)
  unfolding multiplier
  multiplier-before = rw before (mul_comm (multiplier (drop i cs)) (max count 1))

-- What the test of the multipliers has where the counts cs from place i on are done.
pub record Tested (cs : List ℕ) (i m : ℕ) : Type 0 where
  pub within : (min 1 (length cs) ≤ i) × (i ≤ length cs)
  pub tested : multiplier_test (drop i cs) ≡ Ok tt
  pub front : m ≡ multiplier (drop i cs)

pub tested_none : (cs : List ℕ) → Tested cs (length cs) 1
unfolding multiplier_test multiplier
tested_none cs =
    let e = drop_of_length-le cs {i = length cs} (omega arith) in
    record { within = (omega arith, omega arith); tested = rw e refl; front = rw e refl }

-- a refusal behind is one in front
pub refused_front : (k : ℕ) (cs : List ℕ) (r : Refusal) → multiplier_test (drop k cs) ≡ Err r → multiplier_test cs ≡ Err r
unfolding multiplier_test ◌then◌
refused_front zero cs r h = h
refused_front (suc k) [] r h = h
refused_front (suc k) (c ∷ cs) r h = rw (refused_front k cs r h) refl

module _ (cs : List ℕ) (i m : ℕ) (t : Tested cs i m) (more : 1 < i) where
  abbrev pub next : ℕ
  next = m * max (get_or cs (i - 1) 0) 1

  next_is : next ≡ multiplier (drop (i - 1) cs)
  next_is = rw t.front (multiplier-before cs i (omega arith) t.within.1)

  test_here : multiplier_test (drop (i - 1) cs) ≡ refuse Unlimited (eqb (get_or cs (i - 1) 0) largest64) then refuse TooManyChunks (ltb largest64 next)
  unfolding multiplier_test ◌then◌
  test_here =
      let b = before cs i (omega arith) t.within.1 in
      ap multiplier_test b ∙ rw t.tested (ap (λ (k : ℕ). refuse Unlimited (eqb (get_or cs (i - 1) 0) largest64) then refuse TooManyChunks (ltb largest64 k)) (ap multiplier (sym b) ∙ sym next_is))

  -- a refusal here is the whole test's
  refused_here : (r : Refusal) → multiplier_test (drop (i - 1) cs) ≡ Err r → multiplier_test (drop 1 cs) ≡ Err r
  refused_here r h =
      let e : 1 + (i - 1 - 1) ≡ i - 1 = omega arith in
      refused_front (i - 1 - 1) (drop 1 cs) r (ap multiplier_test (drop-drop (i - 1 - 1) 1 cs ∙ ap (λ (k : ℕ). drop k cs) e) ∙ h)

  pub tested-unlimited : get_or cs (i - 1) 0 ≡ largest64 → multiplier_test (drop 1 cs) ≡ Err Unlimited
  unfolding refuse ◌then◌
  tested-unlimited e = refused_here _ (test_here ∙ rw (eq-eqb (get_or cs (i - 1) 0) largest64 e) refl)

  module _ (limited : get_or cs (i - 1) 0 ≡ largest64 → ⊥) where
    pub tested_over : largest64 < next → multiplier_test (drop 1 cs) ≡ Err TooManyChunks
    unfolding refuse ◌then◌
    tested_over h = refused_here _ (test_here ∙ rw (ne_eqb (get_or cs (i - 1) 0) largest64 limited, lt-ltb largest64 next h) refl)

    pub tested_more : next ≤ largest64 → Tested cs (i - 1) next
    unfolding refuse ◌then◌
    tested_more h = record {
      within = (omega arith, omega (arith, t.within));
      tested = test_here ∙ rw (ne_eqb (get_or cs (i - 1) 0) largest64 limited, le-ltb largest64 next h) refl;
      front = next_is;
    }

pub tested_all : (cs : List ℕ) (i m : ℕ) → Tested cs i m → i ≤ 1 → multiplier_test (drop 1 cs) ≡ Ok tt
unfolding multiplier_test
tested_all [] i m t low = refl
tested_all (c ∷ cs) i m t low =
    let e : 1 ≡ i = omega (arith, t.within) in
    ap (λ (k : ℕ). multiplier_test (drop k (c ∷ cs))) e ∙ t.tested

-- multipliers that pass fit 64 bits
pub multiplier-fits : (k : ℕ) (cs : List ℕ) → multiplier_test cs ≡ Ok tt → multiplier (drop k cs) ≤ largest64
unfolding multiplier_test multiplier
multiplier-fits zero [] h = omega arith
multiplier-fits zero (c ∷ cs) h = ltb-false largest64 _ (refuse_passed _ _ (then_passed _ _ (then_passed _ _ (sym h)).1).1)
multiplier-fits (suc k) [] h = omega arith
multiplier-fits (suc k) (c ∷ cs) h = multiplier-fits k cs (sym (then_passed _ _ (sym h)).0)

-- What the loop of the multipliers has where the counts cs from place i on are done.
pub record Behind (cs : List ℕ) (i : ℕ) (numbers : Bool) (down : List ℕ) : Type 0 where
  pub within : (0 < i) × (i ≤ length cs)
  pub size : length down ≡ length cs
  pub numbering : numbers ≡ not (has_zero (drop i cs))
  pub each : (j : ℕ) → i ≤ suc j → j < length cs → get_or down j 0 ≡ multiplier (drop (suc j) cs)

pub made_none : (cs down : List ℕ) → 0 < length cs → length down ≡ length cs → Behind cs (length cs) true (set down (length cs - 1) 1)
unfolding has_zero any multiplier
made_none cs down pos size =
    let e = drop_of_length-le cs {i = length cs} (omega arith) in
    record {
      within = (pos, omega arith);
      size = length-set down (length cs - 1) 1 ∙ size;
      numbering = rw e refl;
      each = λ j h k.
          let f : j ≡ length cs - 1 = omega arith in
          ap (λ (n : ℕ). get_or (set down (length cs - 1) 1) n 0) f ∙ get_or-set_same down (length cs - 1) 1 0 (omega arith)
          ∙ rw (drop_of_length-le cs {i = suc j} (omega arith)) refl;
    }

module _ (cs : List ℕ) (i : ℕ) (numbers : Bool) (down : List ℕ) (m : Behind cs i numbers down) (more : 1 < i) where
  abbrev pub product : ℕ
  product = get_or down (i - 1) 0 * max (get_or cs (i - 1) 0) 1

  product_is : product ≡ multiplier (drop (i - 1) cs)
  product_is =
      let e : suc (i - 1) ≡ i = omega arith in
      ap (λ (k : ℕ). k * max (get_or cs (i - 1) 0) 1) (m.each (i - 1) (omega arith) (omega (arith, m.within)) ∙ ap (λ (k : ℕ). multiplier (drop k cs)) e)
      ∙ multiplier-before cs i (omega arith) m.within.1

  pub made_fits : multiplier_test (drop 1 cs) ≡ Ok tt → product ≤ largest64
  made_fits t =
      let e : 1 + (i - 1 - 1) ≡ i - 1 = omega arith in
      rw (product_is ∙ ap multiplier (sym (drop-drop (i - 1 - 1) 1 cs ∙ ap (λ (k : ℕ). drop k cs) e))) (multiplier-fits (i - 1 - 1) (drop 1 cs) t)

  pub made_more : Behind cs (i - 1) (numbers && not (eqb (get_or cs (i - 1) 0) 0)) (set down (i - 1 - 1) product)
  unfolding has_zero any
  made_more = record {
    within = (omega arith, omega (arith, m.within));
    size = length-set down (i - 1 - 1) product ∙ m.size;
    numbering = rw (m.numbering, before cs i (omega arith) m.within.1) (de_morgan (has_zero (drop i cs)) (eqb (get_or cs (i - 1) 0) 0));
    each = at;
  }
    where
      de_morgan : (a b : Bool) → not a && not b ≡ not (b || a)
      de_morgan true true = refl
      de_morgan true false = refl
      de_morgan false true = refl
      de_morgan false false = refl

      at : (j : ℕ) → i - 1 ≤ suc j → j < length cs → get_or (set down (i - 1 - 1) product) j 0 ≡ multiplier (drop (suc j) cs)
      at j low high = go (ℕ_discrete j (i - 1 - 1))
        where
          go : Dec (j ≡ i - 1 - 1) → get_or (set down (i - 1 - 1) product) j 0 ≡ multiplier (drop (suc j) cs)
          go (yes e) =
              let f : suc j ≡ i - 1 = omega arith in
              ap (λ (k : ℕ). get_or (set down (i - 1 - 1) product) k 0) e
              ∙ get_or-set_same down (i - 1 - 1) product 0 (omega (arith, m.within, m.size)) ∙ product_is ∙ ap (λ (k : ℕ). multiplier (drop k cs)) (sym f)
          go (no d) = get_or-set_other down (i - 1 - 1) j product 0 d ∙ m.each j (omega arith) high

-- all of them
pub made_all : (cs : List ℕ) (i : ℕ) (numbers : Bool) (down : List ℕ) → Behind cs i numbers down → i ≤ 1
    → (numbers ≡ not (has_zero (drop 1 cs))) × (down ≡ multipliers cs)
made_all cs i numbers down m low =
    let e : 1 ≡ i = omega (arith, m.within) in
    let s = m.size in (
      m.numbering ∙ ap (λ (k : ℕ). not (has_zero (drop k cs))) (sym e),
      ext_get_or 0 down (multipliers cs) (s ∙ sym (length-multipliers cs)) (λ j h.
          let k : j < length cs = omega arith in
          m.each j (omega arith) k ∙ sym (multiplier_at cs j k)),
    )

pub made_empty : (u : ℕ) (counts down : List ℕ) → length counts ≡ 0 → length down ≡ length counts
    → (true ≡ not (has_zero (drop 1 (to_front u counts)))) × (down ≡ multipliers (to_front u counts))
unfolding has_zero any multipliers
made_empty u [] [] h k = rw (front_nil u) (refl, refl)
made_empty u [] (x ∷ down) h k = absurd (omega arith)
made_empty u (c ∷ counts) down h k = absurd (omega arith)
