-- The place of a slot in a file: whether it is reached, where its element lies, and the structures that lead to it.
use Rattle.std.specs.Prelude.{ℕ, ◌+◌, Bool, true, false, not, cond, ◌&&◌, ◌||◌, List, [], ◌∷◌, Ok}
use Rattle.refusal.specs.Refusals.{◌then◌, Checked}
use Rattle.fields.specs.Fields.{offset_size_test}
use Rattle.ea_geometry.specs.Extents.{inline_element_at, block_element_at, paged_element_at}
use Rattle.ea_geometry.specs.declared.Place.{Place}
use Rattle.ea_geometry.specs.declared.Place.TheVariants.{Inline, Block, Page, Nowhere}
use Rattle.ea_blocks.specs.Array.{Array}
use Rattle.ea_blocks.specs.Structures.{Structure, super_block, data_block, data_page, test_of, is_direct, block_at}
use Rattle.ea_blocks.specs.Structures.{super_undefined, block_undefined, bit_set}

-- A place is reached if each pointer to it in the index and super block is defined and its page bit (if any) is set.
unfoldable pub block_reached : Array → ℕ → ℕ → Bool
block_reached a u k = (is_direct a u || not (super_undefined a u)) && not (block_undefined a u k)

unfoldable pub reached : Array → Place → Bool
reached a (Inline i) = true
reached a (Block u k i) = block_reached a u k
reached a (Page u k i p b) = block_reached a u k && bit_set a u b
reached a Nowhere = false

-- the file's position of the element at a place
unfoldable pub position_of : Array → Place → ℕ
position_of a (Inline i) = a.index_at + inline_element_at a.parameters a.offset_size i
position_of a (Block u k i) = block_at a u k + block_element_at a.parameters a.offset_size i
position_of a (Page u k i p b) = block_at a u k + paged_element_at a.parameters a.offset_size i
position_of a Nowhere = 0

-- The super block and data block that lead to data block k of super block u and to what is in it, up to an undefined
-- pointer.
unfoldable pub leading_to : Array → ℕ → ℕ → List Structure → List Structure
leading_to a u k inner =
    let block = cond (block_undefined a u k) [] (data_block u k ∷ inner) in
    cond (is_direct a u) block (cond (super_undefined a u) [] (super_block u ∷ block))

-- The super block, data block and, its bit set, page that lead to a place, up to an undefined pointer.
unfoldable pub structures : Array → Place → List Structure
structures a (Inline i) = []
structures a (Block u k i) = leading_to a u k []
structures a (Page u k i p b) = leading_to a u k (cond (bit_set a u b) (data_page u k p ∷ []) [])
structures a Nowhere = []

-- Pointer: 1. There is a pointer on the way to every place but an inline one.
unfoldable pub pointer_test : Array → Place → Checked
pointer_test a (Inline i) = Ok tt
pointer_test a (Block u k i) = offset_size_test a.offset_size
pointer_test a (Page u k i p b) = offset_size_test a.offset_size
pointer_test a Nowhere = Ok tt

-- one structure after the other
unfoldable pub tested : Array → List Structure → Checked
tested a [] = Ok tt
tested a (x ∷ l) = test_of a x then tested a l

-- the tests on the way to a place
unfoldable pub place_test : Array → Place → Checked
place_test a p = pointer_test a p then tested a (structures a p)
