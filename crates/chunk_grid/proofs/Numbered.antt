-- What a grid's slots are numbered by, from the arrays that describe it. Assumes nothing.
use Prim.Native.Nat.{ℕ, zero, suc, ◌<◌, ◌≤◌}
use mathlib.Core.Path.{◌≡◌, refl, sym, ap, ◌∙◌}
use mathlib.Core.Bool.{Bool, true, false, not, cond}
use mathlib.Core.List.{List, [], ◌∷◌, ◌++◌}
use native.Mathlib.Omega.{arith}
use borrow.Author.Tests.{le-ltb}
use lib.ListN.{length, get_or, take, drop}
use lib.Seq.{length-take-le, take_all, take_at, drop_at}
use Rattle.std.specs.Prelude.{Err, None, Ok, Option, Some}
use Rattle.std.specs.Option.{IfSome, IsSomeAnd, MatchOption, is_some, unwrap_or, option_copied}
use Rattle.std.proofs.Common.{Bor}
use Rattle.refusal.specs.declared.Refusal.TheVariants.{ChunkLength, Rank}
use Rattle.refusal.proofs.Tests.{false_true, refuse_passed, then_passed}
use Rattle.refusal.specs.declared.Refusal.{Refusal}
use Rattle.refusal.specs.Refusals.{largest64, refuse, ◌then◌}
use Rattle.refusal.specs.Outcome.{◌yields◌}
use Rattle.chunk_grid.specs.declared.ChunkGrid.{ChunkGrid}
use Rattle.chunk_grid.specs.declared.GridOrder.{GridOrder}
use Rattle.chunk_grid.specs.Grid.{Grid, pairwise, any, ceil_div, count_of, counts, leading_in, leading, to_front, ordered, multipliers, has_zero, numbers_nothing, overflows, shapes_test, multiplier_test, grid_test, is_unlimited_first, given}
use Rattle.chunk_grid.specs.Values.{grid_of, grids, built, numbering_test, counts_test, Made, Describes}
use Rattle.chunk_grid.proofs.Grids.{shaped, accepted}
use Rattle.chunk_grid.proofs.Building.{rank_over, shapes_agree}

-- numbers that 64 bits hold
pub none_over : (l : List ℕ) (n : ℕ) → ((i : ℕ) → get_or l i 0 ≤ largest64) → overflows (take n l) ≡ false
unfolding overflows any
none_over l zero h = refl
none_over [] (suc n) h = refl
none_over (a ∷ l) (suc n) h = rw (le-ltb largest64 a (h 0)) (none_over l n (λ i. h (suc i)))

pub refused_shapes : (g : Grid) (r : Refusal) → Err r ≡ shapes_test g → Err r ≡ grid_test g
unfolding grid_test ◌then◌
refused_shapes g r e = rw (← e) refl

-- what building a grid comes to, from its test
pub built_refused : (g : Grid) (r : Refusal) → Err r ≡ grid_test g → grids (Err r) ≡ built g
unfolding grids built ◌yields◌
built_refused g r e = rw (← e) refl

pub built_passed : (g : Grid) (k : ChunkGrid) → Ok tt ≡ grid_test g → grid_of k ≡ g → grids (Ok k) ≡ built g
unfolding grids built ◌yields◌
built_passed g k t e = rw (e, ← t) refl

-- the array of a maximum, where one is given
pub Kept : Option (List ℕ) → Option (List ℕ) → Type 0
Kept None None = Unit {0}
Kept None (Some a) = ⊥
Kept (Some l) None = ⊥
Kept (Some l) (Some a) = take (length l) a ≡ take 32 l

-- where it is made of the slice that is given
pub kept_from : (m : Option (Bor (List ℕ))) (r : Option (List ℕ)) {post : Bor (List ℕ) → List ℕ → Type 0} → MatchOption m (r ≡ None) (λ x. IsSomeAnd r (post x))
    → ((x : Bor (List ℕ)) (a : List ℕ) → post x a → take (length x.now) a ≡ take 32 x.now) → Kept (option_copied m) r
unfolding Kept
kept_from None r e h = rw e tt
kept_from (Some x) None k h = absurd k
kept_from (Some x) (Some a) k h = h x a k

-- the slice that a slice stands in for
pub behind : (m : Option (Bor (List ℕ))) (d : Bor (List ℕ)) → (unwrap_or m d).now ≡ unwrap_or (option_copied m) d.now
behind None d = refl
behind (Some x) d = refl

whole : (n : ℕ) (l a : List ℕ) → length l ≡ n → n ≤ 32 → take (length l) a ≡ take 32 l → take n a ≡ l
whole n l a e small h = rw (← e) (h ∙ take_all 32 l (omega arith))

-- the arrays of shapes of one rank describe the grid of these shapes
pub same_grid : (rank : ℕ) (chunk present : List ℕ) (maximum : Option (List ℕ)) (c p : List ℕ) (m : Option (List ℕ)) (o : GridOrder)
    → Ok tt ≡ shapes_test (given rank chunk present (is_some maximum) (unwrap_or maximum []) o)
    → take (length chunk) c ≡ take 32 chunk → take (length present) p ≡ take 32 present → Kept maximum m
    → grid_of (record { rank = rank; chunk = c; present = p; maximum = m; order = o }) ≡ given rank chunk present (is_some maximum) (unwrap_or maximum []) o
unfolding grid_of given Kept
same_grid rank chunk present None c p None o t hc hp k =
    let s = shaped (given rank chunk present false [] o) t in
    rw (whole rank chunk c s.chunked s.small hc, whole rank present p s.presented s.small hp) refl
same_grid rank chunk present None c p (Some a) o t hc hp k = absurd k
same_grid rank chunk present (Some l) c p None o t hc hp k = absurd k
same_grid rank chunk present (Some l) c p (Some a) o t hc hp k =
    let s = shaped (given rank chunk present true l o) t in
    rw (whole rank chunk c s.chunked s.small hc, whole rank present p s.presented s.small hp, whole rank l a (s.bounded refl) s.small k) refl

-- the extents that a grid's counts are taken from
abbrev pub limits_of : Grid → List ℕ
limits_of g = cond g.has_maximum g.maximum g.present

-- behind the tests of the shapes
pub tests : (g : Grid) → shapes_test g ≡ Ok tt → grid_test g ≡ numbering_test g.unlimited_first (limits_of g) g.chunk
unfolding grid_test numbering_test counts_test ordered leading counts ◌then◌
tests g e = rw e refl

module _ (b : Bool) (limits chunk : List ℕ) where
  pub zero_length : has_zero chunk ≡ true → Err ChunkLength ≡ numbering_test b limits chunk
  unfolding numbering_test refuse ◌then◌
  zero_length z = rw z refl

  pub no_zero_length : has_zero chunk ≡ false → (counts : List ℕ) → counts ≡ pairwise count_of limits chunk → counts_test b counts ≡ numbering_test b limits chunk
  unfolding numbering_test refuse ◌then◌
  no_zero_length z counts c = rw (z, c) refl

  module _ (passed : numbering_test b limits chunk ≡ Ok tt) where
    pub no_zero : has_zero chunk ≡ false
    unfolding numbering_test
    no_zero = refuse_passed _ _ (then_passed _ _ (sym passed)).0

    pub multipliers_pass : (counts : List ℕ) (rotated : ℕ) → counts ≡ pairwise count_of limits chunk → rotated ≡ leading_in b counts → multiplier_test (drop 1 (to_front rotated counts)) ≡ Ok tt
    unfolding numbering_test counts_test
    multipliers_pass counts rotated c u = rw (u, c) (sym (then_passed _ _ (then_passed _ _ (sym passed)).1).0)

-- each number from the one before, all from the counts
pub made : (b : Bool) (limits present chunk counts bound down : List ℕ) (rotated : ℕ) (numbers : Bool) → counts ≡ pairwise count_of limits chunk → bound ≡ pairwise ceil_div present chunk
    → rotated ≡ leading_in b counts → (numbers ≡ not (has_zero (drop 1 (to_front rotated counts)))) × (down ≡ multipliers (to_front rotated counts))
    → Made b limits present chunk rotated numbers counts bound down
made b limits present chunk counts bound down rotated numbers c d u m = record {
  leads = u ∙ ap (leading_in b) c;
  numbering = m.0 ∙ ap (λ (l : List ℕ). not (has_zero (drop 1 (to_front rotated l)))) c;
  counted = c;
  bounds = d;
  downs = m.1 ∙ ap (λ (l : List ℕ). multipliers (to_front rotated l)) c;
}

-- what is made of a grid, in arrays
made_of : (g : Grid) (chunk counted bound down : List ℕ) (rotated : ℕ) (numbers : Bool) → grid_test g ≡ Ok tt → take g.rank chunk ≡ g.chunk → overflows g.present ≡ false
    → Made g.unlimited_first (limits_of g) g.present g.chunk rotated numbers (take g.rank counted) (take g.rank bound) (take g.rank down)
    → Describes g.rank rotated numbers chunk counted bound down g
unfolding counts leading ordered numbers_nothing
made_of g chunk counted bound down rotated numbers t c fit m = record {
  numbered = record { built = t; ranked = refl; leads = m.leads; chunks = c; downs = m.downs ∙ rw m.leads refl };
  counted = m.counted;
  extended = record { numbering = m.numbering ∙ rw m.leads refl; bounds = m.bounds; fits = fit };
}

-- For a value of the code: 3 where its rank is over 32, ..
pub over_32 : (k : ChunkGrid) → 32 < k.rank → Err Rank ≡ grid_test (grid_of k)
unfolding grid_of
over_32 k h = refused_shapes (grid_of k) _ (rank_over k.rank (take k.rank k.chunk) (take k.rank k.present) (take k.rank (unwrap_or k.maximum [])) k.order (is_some k.maximum) h)

pub rank_small : (k : ChunkGrid) → grid_test (grid_of k) ≡ Ok tt → k.rank ≤ 32
unfolding grid_of given
rank_small k t = (accepted (grid_of k) t).small

-- .. else its arrays are shapes of one rank.
module _ (k : ChunkGrid) (small : k.rank ≤ 32) (sizes : (length k.chunk ≡ 32) × (length k.present ≡ 32) × IfSome k.maximum (λ l. length l ≡ 32)) where
  bounded : (m : Option (List ℕ)) → IfSome m (λ l. length l ≡ 32) → is_some m ≡ true → length (take k.rank (unwrap_or m [])) ≡ k.rank
  bounded None h e = absurd (false_true e)
  bounded (Some l) h e = length-take-le k.rank l (omega arith)

  shapes_pass : shapes_test (grid_of k) ≡ Ok tt
  unfolding grid_of
  shapes_pass =
      sym (shapes_agree k.rank (take k.rank k.chunk) (take k.rank k.present) (take k.rank (unwrap_or k.maximum [])) k.order small
      (length-take-le k.rank k.chunk (omega arith)) (length-take-le k.rank k.present (omega arith)) (is_some k.maximum) (bounded k.maximum sizes.2))

  limits_are : limits_of (grid_of k) ≡ take k.rank (unwrap_or k.maximum k.present)
  unfolding grid_of given
  limits_are = go k.maximum
    where
      go : (m : Option (List ℕ)) → cond (is_some m) (cond (is_some m) (take k.rank (unwrap_or m [])) []) (take k.rank k.present) ≡ take k.rank (unwrap_or m k.present)
      go None = refl
      go (Some l) = refl

  -- the test behind those of the shapes
  pub tests_of : numbering_test (is_unlimited_first k.order) (take k.rank (unwrap_or k.maximum k.present)) (take k.rank k.chunk) ≡ grid_test (grid_of k)
  unfolding grid_of given
  tests_of = rw (← limits_are) (sym (tests (grid_of k) shapes_pass))

  -- what is made, at the beginning of longer lists
  pub numbering_is : grid_test (grid_of k) ≡ Ok tt → (a b d x y z : List ℕ) (rotated : ℕ) (numbers : Bool) → length a ≡ k.rank → length b ≡ k.rank → length d ≡ k.rank
      → overflows (take k.rank k.present) ≡ false
      → Made (is_unlimited_first k.order) (take k.rank (unwrap_or k.maximum k.present)) (take k.rank k.present) (take k.rank k.chunk) rotated numbers a b d
      → Describes k.rank rotated numbers k.chunk (a ++ x) (b ++ y) (d ++ z) (grid_of k)
      × ((drop k.rank (a ++ x) ≡ x) × (drop k.rank (b ++ y) ≡ y) × (drop k.rank (d ++ z) ≡ z))
  unfolding grid_of given
  numbering_is passed a b d x y z rotated numbers la lb ld fit m = (
    made_of (grid_of k) k.chunk (a ++ x) (b ++ y) (d ++ z) rotated numbers passed refl fit
        (rw (take_at a x k.rank la, take_at b y k.rank lb, take_at d z k.rank ld) (rw (← limits_are) at m)),
    (drop_at a x k.rank la, drop_at b y k.rank lb, drop_at d z k.rank ld),
  )

-- For the shapes that are given.
module _ (rank : ℕ) (chunk present : List ℕ) (m : Option (List ℕ)) (o : GridOrder) (e : Ok tt ≡ shapes_test (given rank chunk present (is_some m) (unwrap_or m []) o)) where
  pub given_lengths : (length (unwrap_or m present) ≡ length chunk) × (length chunk ≤ 32)
  unfolding given
  given_lengths =
      let s = shaped (given rank chunk present (is_some m) (unwrap_or m []) o) e in
      (go m s.bounded (s.presented ∙ sym s.chunked) (sym s.chunked), omega (arith, s.chunked, s.small))
    where
      go : (m : Option (List ℕ)) → (is_some m ≡ true → length (cond (is_some m) (unwrap_or m []) []) ≡ rank) → length present ≡ length chunk → rank ≡ length chunk
          → length (unwrap_or m present) ≡ length chunk
      go None h p c = p
      go (Some l) h p c = h refl ∙ c

  pub tests-given : numbering_test (is_unlimited_first o) (unwrap_or m present) chunk ≡ grid_test (given rank chunk present (is_some m) (unwrap_or m []) o)
  unfolding given
  tests-given = go m e
    where
      go : (m : Option (List ℕ)) → Ok tt ≡ shapes_test (given rank chunk present (is_some m) (unwrap_or m []) o)
          → numbering_test (is_unlimited_first o) (unwrap_or m present) chunk ≡ grid_test (given rank chunk present (is_some m) (unwrap_or m []) o)
      go None e = sym (tests _ (sym e))
      go (Some l) e = sym (tests _ (sym e))
