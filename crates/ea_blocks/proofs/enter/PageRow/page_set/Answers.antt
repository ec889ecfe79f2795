-- `ea_blocks::enter::PageRow::page_set` meets its contract. Assumes nothing.
use Prim.Native.Nat.{◌+◌, ◌<◌}
use native.Mathlib.Omega.{arith}
use lib.ListN.{length}
use Rattle.ea_geometry.specs.Extents.{block_prefix}
use Rattle.ea_geometry.specs.Sizes.{bit_number}
use Rattle.structures.specs.PageBits.{bit_byte}
use Rattle.ea_geometry.proofs.Places.{in_pages_over}
use Rattle.ea_geometry.proofs.Positions.{bit_inside, block_pointer_inside}
use Rattle.ea_blocks.specs.Structures.{bit_set, page_set}
use Rattle.ea_blocks.proofs.enter.PageRow.page_set.Goals.{Start}
use Rattle.ea_blocks.proofs.enter.PageRow.page_set.Goals as goal

-- the bit lies in the super block
in_super : (a : Start)
    → let r = a.args.self in
    let h = r.array.extents.sizes.parameters in
    r.super_at + block_prefix h r.array.extents.offset_size + bit_byte (bit_number h r.u r.k a.args.p) < length r.array.file.now
in_super a =
    let r = a.args.self in
    let h = r.array.extents.sizes.parameters in
    let o = r.array.extents.offset_size in
    omega (arith, r.inside, bit_inside h o r.u r.k a.args.p (in_pages_over h r.u r.paged) r.below a.requires, block_pointer_inside h o r.u 0 (omega (arith, r.below)))

pub overflow_add-pos : goal.overflow_add-pos
overflow_add-pos c = omega (arith, c.block_prefix.ensures, in_super (goal.at.overflow_add-pos c).Start)

pub page_is_initialized-requires : goal.page_is_initialized-requires
page_is_initialized-requires c = rw (c.block_prefix.ensures, c.bit_number-bit.ensures) (in_super (goal.at.page_is_initialized-requires c).Start)

pub returns : goal.returns
unfolding page_set bit_set
returns c e = rw (← e, c.page_is_initialized.ensures, c.block_prefix.ensures, c.bit_number-bit.ensures)
