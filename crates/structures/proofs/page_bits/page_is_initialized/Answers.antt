-- `structures::page_bits::page_is_initialized` meets its contract. Assumes nothing.
use Prim.Native.Nat.{◌+◌, ◌/◌, ◌%◌}
use native.Mathlib.Omega.{arith}
use lib.ListN.{get_or}
use Rattle.structures.specs.PageBits.{bit_byte, bit_mask, page_bit}
use Rattle.structures.proofs.Masks.{mask_test}
use Rattle.structures.proofs.page_bits.page_is_initialized.Goals as goal

pub bounds-s-pos : goal.bounds-s-pos
unfolding bit_byte
bounds-s-pos c = omega arith

pub returns : goal.returns
unfolding page_bit bit_byte bit_mask
returns c =
    let a = c.args in
    mask_test (get_or a.s.now (a.pos + a.bit / 8) 0) (a.bit % 8) (omega arith)
