-- The chunk grid: which slot is which chunk's.
use Rattle.std.specs.Prelude.{ℕ, suc, ◌+◌, ◌-◌, ◌*◌, ◌/◌, ◌%◌, max, Bool, true, false, not, cond, ◌&&◌, ◌||◌}
use Rattle.std.specs.Prelude.{List, [], ◌∷◌, ◌++◌, eqb, leb, ltb, length, take, drop, None, Ok, Option, Some}
use Rattle.refusal.specs.declared.Refusal.TheVariants.{Rank, PresentRank, MaximumRank, ChunkLength, Unlimited}
use Rattle.refusal.specs.declared.Refusal.TheVariants.{TooManyChunks, Corner, NumbersNothing, OffsetOverflow}
use Rattle.refusal.specs.Refusals.{largest64, refuse, ◌then◌, Checked}
use Rattle.chunk_grid.specs.declared.GridOrder.{GridOrder}
use Rattle.chunk_grid.specs.declared.GridOrder.TheVariants.{RowMajor, UnlimitedFirst}

-- What a grid is built from: its rank, the chunk's lengths and the present extents, whether maximum extents are
-- given, these, and whether the order is U (UnlimitedFirst) or R (RowMajor).
pub record Grid : Type 0 where
  pub rank : ℕ
  pub chunk : List ℕ
  pub present : List ℕ
  pub has_maximum : Bool
  pub maximum : List ℕ
  pub unlimited_first : Bool

-- Order U is UnlimitedFirst, order R RowMajor.
unfoldable pub is_unlimited_first : GridOrder → Bool
is_unlimited_first RowMajor = false
is_unlimited_first UnlimitedFirst = true

-- the grid of these shapes, the chunk's, the present and the maximum one; a maximum that isn't given is no part of it
unfoldable pub given : ℕ → List ℕ → List ℕ → Bool → List ℕ → GridOrder → Grid
given rank c p has m o =
    record {
      rank = rank;
      chunk = c;
      present = p;
      has_maximum = has;
      maximum = cond has m [];
      unlimited_first = is_unlimited_first o;
    }

-- two lists, member by member
unfoldable pub pairwise : (ℕ → ℕ → ℕ) → List ℕ → List ℕ → List ℕ
pairwise f (a ∷ l) (b ∷ m) = f a b ∷ pairwise f l m
pairwise f [] m = []
pairwise f (a ∷ l) [] = []

-- p holds of two lists, member by member, and the second is long enough
unfoldable pub every : (ℕ → ℕ → Bool) → List ℕ → List ℕ → Bool
every p (a ∷ l) (b ∷ m) = p a b && every p l m
every p [] m = true
every p (a ∷ l) [] = false

-- p holds of a member
unfoldable pub any : (ℕ → Bool) → List ℕ → Bool
any p [] = false
any p (a ∷ l) = p a || any p l

-- divided, rounded up
unfoldable pub ceil_div : ℕ → ℕ → ℕ
ceil_div a b = (a + (b - 1)) / b

-- 2^64 − 1 means unlimited, as an extent and as a count.
abbrev pub unlimited : ℕ → Bool
unlimited n = eqb n largest64

-- A dimension's chunk count is its maximum extent (else its present extent) divided by the chunk length, rounded up.
unfoldable pub count_of : ℕ → ℕ → ℕ
count_of extent length = cond (unlimited extent) largest64 (ceil_div extent length)

unfoldable pub counts : Grid → List ℕ
counts g = pairwise count_of (cond g.has_maximum g.maximum g.present) g.chunk

-- In order U the first unlimited dimension leads and the others keep their order; in order R nothing moves.
unfoldable pub first_unlimited : List ℕ → ℕ
first_unlimited [] = 0
first_unlimited (c ∷ cs) = cond (unlimited c) 0 (suc (first_unlimited cs))

unfoldable pub leading_in : Bool → List ℕ → ℕ
leading_in unlimited_first cs = cond (unlimited_first && ltb (first_unlimited cs) (length cs)) (first_unlimited cs) 0

unfoldable pub leading : Grid → ℕ
leading g = leading_in g.unlimited_first (counts g)

-- a list with member u moved to the front, and moved back
unfoldable pub to_front : ℕ → List ℕ → List ℕ
to_front u l = take 1 (drop u l) ++ take u l ++ drop (suc u) l

unfoldable pub from_front : ℕ → List ℕ → List ℕ
from_front u l = take u (drop 1 l) ++ take 1 l ++ drop (suc u) l

-- the counts in the grid's order
unfoldable pub ordered : Grid → List ℕ
ordered g = to_front (leading g) (counts g)

-- The last multiplier is 1; each earlier one is the next one times the following dimension's count, a count of 0
-- taken as 1 there: the multiplier in front of these counts.
unfoldable pub multiplier : List ℕ → ℕ
multiplier [] = 1
multiplier (c ∷ cs) = max c 1 * multiplier cs

-- every dimension's, from all counts in the grid's order
unfoldable pub multipliers : List ℕ → List ℕ
multipliers [] = []
multipliers (c ∷ cs) = multiplier cs ∷ multipliers cs

unfoldable pub has_zero : List ℕ → Bool
has_zero l = any (λ (c : ℕ). eqb c 0) l

-- A grid with a 0 count behind the leading dimension numbers nothing.
unfoldable pub numbers_nothing : Grid → Bool
numbers_nothing g = has_zero (drop 1 (ordered g))

-- A slot yields quotients by the multipliers in turn; ..
unfoldable pub quotients : ℕ → List ℕ → List ℕ
quotients s [] = []
quotients s (m ∷ ms) = s / m ∷ quotients (s % m) ms

-- .. offset = quotient times chunk length.
unfoldable pub offsets : Grid → ℕ → List ℕ
offsets g s =
    from_front (leading g) (pairwise ◌*◌ (quotients s (multipliers (ordered g))) (to_front (leading g) g.chunk))

-- one of them passes 2^64 − 1
unfoldable pub overflows : List ℕ → Bool
overflows l = any (ltb largest64) l

-- each lies below the number at its place in the second list
unfoldable pub below : List ℕ → List ℕ → Bool
below l m = every ltb l m

-- 32 grid numbers nothing; 33 offset past 2^64 − 1, of any dimension.
unfoldable pub offsets_test : Grid → ℕ → Checked
offsets_test g s = refuse NumbersNothing (numbers_nothing g) then refuse OffsetOverflow (overflows (offsets g s))

-- A chunk is an aligned corner below the present extents.
unfoldable pub aligned : List ℕ → List ℕ → Bool
aligned corner chunk = every (λ (o c : ℕ). eqb (o % c) 0) corner chunk

unfoldable pub is_chunk : Grid → List ℕ → Bool
is_chunk g corner = eqb (length corner) g.rank && aligned corner g.chunk && below corner g.present

-- 10 corner of wrong rank, unaligned or not below the extents.
unfoldable pub corner_test : Grid → List ℕ → Checked
corner_test g corner = refuse Corner (not (is_chunk g corner))

-- Its slot is the sum, over the dimensions in the grid's order, of offset / chunk length times multiplier.
unfoldable pub total : List ℕ → ℕ
total [] = 0
total (a ∷ l) = a + total l

-- It has no slot if a quotient behind the leading one isn't below its count, or if the slot would pass 2^64 − 1.
unfoldable pub slot_from : List ℕ → List ℕ → Option ℕ
slot_from qs cs =
    let s = total (pairwise ◌*◌ qs (multipliers cs)) in
    cond (below (drop 1 qs) (drop 1 cs) && leb s largest64) (Some s) None

unfoldable pub slot_of : Grid → List ℕ → Option ℕ
slot_of g corner = slot_from (pairwise ◌/◌ (to_front (leading g) corner) (to_front (leading g) g.chunk)) (ordered g)

-- 3 rank over 32, or a chunk shape of another rank; 4 present rank differs; 5 maximum rank differs.
unfoldable pub shapes_test : Grid → Checked
shapes_test g =
    refuse Rank (ltb 32 g.rank || not (eqb (length g.chunk) g.rank))
    then refuse PresentRank (not (eqb (length g.present) g.rank))
    then refuse MaximumRank (g.has_maximum && not (eqb (length g.maximum) g.rank))

-- The multipliers from the last forward, each 7 (an unlimited dimension where a count is needed), then 8 (more chunks
-- than 2^64 − 1 can number): the multipliers of the counts behind the leading one.
unfoldable pub multiplier_test : List ℕ → Checked
multiplier_test [] = Ok tt
multiplier_test (c ∷ cs) =
    multiplier_test cs then refuse Unlimited (unlimited c)
    then refuse TooManyChunks (ltb largest64 (multiplier (c ∷ cs)))

-- The product of all counts in dimension order, up to an unlimited one, 8.
unfoldable pub product_test : ℕ → List ℕ → Checked
product_test p [] = Ok tt
product_test p (c ∷ cs) =
    cond (unlimited c) (Ok tt) (refuse TooManyChunks (ltb largest64 (p * c)) then product_test (p * c) cs)

-- 3 to 5; 6 a chunk length 0; the multipliers; the product.
unfoldable pub grid_test : Grid → Checked
grid_test g =
    shapes_test g
    then refuse ChunkLength (has_zero g.chunk)
    then multiplier_test (drop 1 (ordered g))
    then product_test 1 (counts g)
