-- Worked examples of grids. Assumes nothing.
use Prim.Native.Nat.{ℕ, ◌^◌}
use mathlib.Core.Path.{◌≡◌, refl}
use mathlib.Core.Bool.{Bool, true, false}
use mathlib.Core.List.{List, [], ◌∷◌}
use Rattle.std.specs.Prelude.{Err, Ok, Some}
use Rattle.refusal.specs.declared.Refusal.TheVariants.{Unlimited}
use Rattle.refusal.specs.Refusals.{largest64, refuse, ◌then◌}
use Rattle.chunk_grid.specs.Grid.{Grid, pairwise, every, any, ceil_div, count_of, counts, first_unlimited, leading_in, leading, to_front, from_front, ordered, multiplier, multipliers, has_zero, numbers_nothing, quotients, offsets, overflows, below, total, slot_from, slot_of, shapes_test, multiplier_test, product_test, grid_test}
use Rattle.chunk_grid.specs.Values.{Describes}

-- chunk 10 by 5, maximum 20 by unlimited, whatever the present extents
abbrev pub twenty : Bool → ℕ → ℕ → Grid
twenty unlimited_first rows columns = record {
  rank = 2;
  chunk = 10 ∷ 5 ∷ [];
  present = rows ∷ columns ∷ [];
  has_maximum = true;
  maximum = 20 ∷ largest64 ∷ [];
  unlimited_first = unlimited_first;
}

-- In order U it is built, and slot 5 is corner (10, 10).
pub order_U : (rows columns : ℕ)
    → (grid_test (twenty true rows columns) ≡ Ok tt) × (offsets (twenty true rows columns) 5 ≡ 10 ∷ 10 ∷ []) × (slot_of (twenty true rows columns) (10 ∷ 10 ∷ []) ≡ Some 5)
unfolding refuse ◌then◌ pairwise every any ceil_div count_of counts first_unlimited leading_in leading to_front from_front ordered multiplier multipliers has_zero quotients offsets below total slot_from slot_of shapes_test multiplier_test product_test grid_test
order_U rows columns = (refl, refl, refl)

-- In order R it is 7: the unlimited dimension lies behind the leading one.
pub order_R : (rows columns : ℕ) → grid_test (twenty false rows columns) ≡ Err Unlimited
unfolding refuse ◌then◌ pairwise any ceil_div count_of counts first_unlimited leading_in leading to_front ordered multiplier has_zero shapes_test multiplier_test product_test grid_test
order_R rows columns = refl

-- A maximum that 64 bits don't hold: they hold the numbers of this grid all the same, and a numbering may be of it.
abbrev pub tall : Grid
tall = record {
  rank = 2;
  chunk = 1 ∷ (2 ^ 40) ∷ [];
  present = 1 ∷ (2 ^ 41) ∷ [];
  has_maximum = true;
  maximum = 1 ∷ (2 ^ 70) ∷ [];
  unlimited_first = false;
}

pub tall_numbers : (c n b d : List ℕ) → Describes 2 0 true (1 ∷ (2 ^ 40) ∷ c) (1 ∷ (2 ^ 30) ∷ n) (1 ∷ 2 ∷ b) ((2 ^ 30) ∷ 1 ∷ d) tall
unfolding refuse ◌then◌ pairwise every any ceil_div count_of counts first_unlimited leading_in leading to_front ordered multiplier multipliers has_zero numbers_nothing overflows shapes_test multiplier_test product_test grid_test
tall_numbers c n b d = record {
  numbered = record { built = refl; ranked = refl; leads = refl; chunks = refl; downs = refl };
  counted = refl;
  extended = record { numbering = refl; bounds = refl; fits = refl };
}

pub tall_slot : slot_of tall (0 ∷ (2 ^ 40) ∷ []) ≡ Some 1
unfolding pairwise every ceil_div count_of counts first_unlimited leading_in leading to_front ordered multiplier multipliers below total slot_from slot_of
tall_slot = refl
