-- `ea_geometry::sizes::Sizes::place_of` meets its contract. Assumes nothing.
use Prim.Native.Nat.{◌-◌, ◌/◌, ◌%◌, ◌<◌, ◌≤◌}
use mathlib.Core.Path.{sym}
use native.Mathlib.Omega.{arith}
use Rattle.ea_geometry.specs.Sizes.{super_blocks, block_elements, elements_before}
use Rattle.ea_geometry.specs.Slots.{first_slot, capacity, InBlock}
use Rattle.ea_geometry.proofs.Counts.{elements_pos}
use Rattle.ea_geometry.proofs.Places.{place_inline, place_past, place_is, super_below, slot_in_block}
use Rattle.ea_geometry.proofs.sizes.Sizes.place_of.Goals.{After-block_elements-n, After-super_block_of-u}
use Rattle.ea_geometry.proofs.sizes.Sizes.place_of.Goals as goal

pub returns-then-slot-inline : goal.returns-then-slot-inline
returns-then-slot-inline c = sym (place_inline c.args.self.parameters c.args.self.served c.args.slot c.if-slot-inline.true)

pub returns-then-capacity-slot : goal.returns-then-capacity-slot
returns-then-capacity-slot c =
    sym (place_past c.args.self.parameters c.args.self.served c.args.slot (omega (arith, c.capacity.ensures)))

-- the super block of the slot is one of the array's
below : (c : After-super_block_of-u) → c.super_block_of-u.result < super_blocks c.args.self.parameters
unfolding capacity first_slot
below c =
    let h = c.args.self.parameters in
    rw c.super_block_of-u.ensures
    (super_below h c.args.self.served (c.args.slot - h.idx_blk_elmts) (super_blocks h) (omega (arith, c.capacity.ensures)))

-- and the slot is the one of this element of this data block
found : (c : After-super_block_of-u)
    → let h = c.args.self.parameters in
    let s = c.args.slot in
    let u = c.super_block_of-u.result in
    let x = s - h.idx_blk_elmts - elements_before h u in
    (elements_before h u ≤ s - h.idx_blk_elmts) × InBlock h s u (x / block_elements h u) (x % block_elements h u)
found c =
    slot_in_block c.args.self.parameters c.args.self.served c.args.slot c.super_block_of-u.result c.super_block_of-u.ensures (omega arith) (below c)

pub elements_before-requires : goal.elements_before-requires
elements_before-requires c = omega (arith, below (goal.at.elements_before-requires c).After-super_block_of-u)

pub overflow_sub-x : goal.overflow_sub-x
overflow_sub-x c = omega (arith, c.elements_before.ensures, (found (goal.at.overflow_sub-x c).After-super_block_of-u).0)

pub block_elements-n-requires : goal.block_elements-n-requires
block_elements-n-requires c = below (goal.at.block_elements-n-requires c).After-super_block_of-u

some : (c : After-block_elements-n) → 0 < c.block_elements-n.result
some c =
    rw c.block_elements-n.ensures (elements_pos c.args.self.parameters c.args.self.served c.super_block_of-u.result)

pub nonzero_div-x : goal.nonzero_div-x
nonzero_div-x c = some (goal.at.nonzero_div-x c).After-block_elements-n

pub nonzero_rem-x : goal.nonzero_rem-x
nonzero_rem-x c = some (goal.at.nonzero_rem-x c).After-block_elements-n

pub place_in-requires : goal.place_in-requires
place_in-requires c =
    let b = (found (goal.at.place_in-requires c).After-super_block_of-u).1 in
    rw (c.block_elements-n.ensures, c.elements_before.ensures) (b.super, b.block, b.element)

pub returns : goal.returns
returns c =
    rw (c.place_in.ensures, c.block_elements-n.ensures, c.elements_before.ensures) (sym (place_is c.args.self.parameters c.args.self.served c.args.slot _ _ _ (found (goal.at.returns c).After-super_block_of-u).1))
