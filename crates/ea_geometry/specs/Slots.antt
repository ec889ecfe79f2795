-- Which slot a place is the place of: the same as the place of a slot, said the other way round.
use Rattle.std.specs.Prelude.{ℕ, suc, ◌+◌, ◌*◌, ◌/◌, ◌<◌, ◌≤◌, Bool, true, false, ◌&&◌, ◌||◌, List, [], ◌∷◌, ◌≡◌}
use Rattle.std.specs.Prelude.{eqb, ltb}
use Rattle.ea_header.specs.declared.Parameters.{Parameters}
use Rattle.ea_geometry.specs.Sizes.{super_blocks, blocks, block_elements, elements_before, page_elements}
use Rattle.ea_geometry.specs.Sizes.{bit_number}
use Rattle.ea_geometry.specs.Place.{in_pages}
use Rattle.ea_geometry.specs.declared.Place.{Place}
use Rattle.ea_geometry.specs.declared.Place.TheVariants.{Inline, Block, Page, Nowhere}

-- the first slot of super block u: behind the inline ones and the super blocks before it
unfoldable pub first_slot : Parameters → ℕ → ℕ
first_slot h u = h.idx_blk_elmts + elements_before h u

-- how many slots the array has at most: the inline ones and those of all super blocks
unfoldable pub capacity : Parameters → ℕ
capacity h = first_slot h (super_blocks h)

-- the slot of element i of data block k of super block u
unfoldable pub slot_in : Parameters → ℕ → ℕ → ℕ → ℕ
slot_in h u k i = first_slot h u + (k * block_elements h u + i)

-- there is an element i of data block k of super block u, and s is its slot
pub record InBlock (h : Parameters) (s u k i : ℕ) : Type 0 where
  pub super : u < super_blocks h
  pub block : k < blocks u
  pub element : i < block_elements h u
  pub slot : s ≡ slot_in h u k i

-- that place is the place of slot s
unfoldable pub PlaceOf : Parameters → ℕ → Place → Type 0
PlaceOf h s (Inline i) = (s ≡ i) × (i < h.idx_blk_elmts)
PlaceOf h s (Block u k i) = InBlock h s u k i × (in_pages h u ≡ false)
PlaceOf h s (Page u k i p b) =
    InBlock h s u k i × (in_pages h u ≡ true) × (p ≡ i / page_elements h)
    × (b ≡ bit_number h u k p)
PlaceOf h s Nowhere = capacity h ≤ s

-- the order of places: the inline ones, then by super block, data block and element
unfoldable pub coordinates : Place → List ℕ
coordinates (Inline i) = 0 ∷ i ∷ []
coordinates (Block u k i) = suc u ∷ k ∷ i ∷ []
coordinates (Page u k i p b) = suc u ∷ k ∷ i ∷ []
coordinates Nowhere = []

unfoldable pub lower : List ℕ → List ℕ → Bool
lower [] m = false
lower (a ∷ l) [] = false
lower (a ∷ l) (b ∷ m) = ltb a b || (eqb a b && lower l m)

unfoldable pub before : Place → Place → Bool
before p q = lower (coordinates p) (coordinates q)
