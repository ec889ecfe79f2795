-- What has passed its test where the tests on the way to an element of a data block have passed. Assumes nothing.
use Prim.Native.Nat.{ℕ, ◌/◌}
use mathlib.Core.Path.{◌≡◌, sym, ◌∙◌}
use mathlib.Core.Bool.{Bool, true, false, cond}
use mathlib.Core.List.{List, [], ◌∷◌}
use Rattle.std.specs.Prelude.{Ok}
use Rattle.refusal.proofs.Tests.{then_inv}
use Rattle.ea_geometry.specs.Sizes.{page_elements, bit_number}
use Rattle.ea_geometry.specs.Place.{in_pages, place_in}
use Rattle.ea_geometry.specs.declared.Place.TheVariants.{Block, Page}
use Rattle.ea_blocks.specs.Array.{Array}
use Rattle.ea_blocks.specs.Structures.{Structure, super_block, data_block, data_page, test_of, is_direct, super_undefined, block_undefined, page_set}
use Rattle.ea_blocks.specs.Places.{leading_to, structures, pointer_test, tested, place_test}
use Rattle.ea_walk.proofs.Paths.{Ready, ready_tested}

-- element i of data block k of super block u
module _ (a : Array) (u k i : ℕ) (t : place_test a (place_in a.parameters u k i) ≡ Ok tt) where
  abbrev page : ℕ
  page = i / page_elements a.parameters

  -- what leads to it inside of its data block, where that is read by pages or not
  abbrev within : Bool → List Structure
  within paged = cond paged (cond (page_set a u k page) (data_page u k page ∷ []) []) []

  on_way : tested a (leading_to a u k (within (in_pages a.parameters u))) ≡ Ok tt
  unfolding place_test pointer_test structures place_in page_set
  on_way = go (in_pages a.parameters u) t
    where
      go : (b : Bool) → place_test a (cond b (Page u k i page (bit_number a.parameters u k page)) (Block u k i)) ≡ Ok tt
          → tested a (leading_to a u k (within b)) ≡ Ok tt
      go true x = (then_inv _ _ x).1
      go false x = (then_inv _ _ x).1

  -- its super block
  pub super_passed : is_direct a u ≡ false → super_undefined a u ≡ false → test_of a (super_block u) ≡ Ok tt
  unfolding leading_to tested
  super_passed d w = let x = on_way in (then_inv _ _ (rw (d, w) at x)).0

  module _ (r : Ready a u) (w : block_undefined a u k ≡ false) where
    -- its data block, and what is inside
    in_block_lem : (test_of a (data_block u k) ≡ Ok tt) × (tested a (within (in_pages a.parameters u)) ≡ Ok tt)
    unfolding tested
    in_block_lem = let x = sym (ready_tested a u k r _) ∙ on_way in then_inv _ _ (rw w at x)

    pub block_passed : test_of a (data_block u k) ≡ Ok tt
    block_passed = in_block_lem.0

    -- its page
    pub page_passed : in_pages a.parameters u ≡ true → page_set a u k (i / page_elements a.parameters) ≡ true
        → test_of a (data_page u k (i / page_elements a.parameters)) ≡ Ok tt
    unfolding tested
    page_passed q b = let x = in_block_lem.1 in (then_inv _ _ (rw (q, b) at x)).0
