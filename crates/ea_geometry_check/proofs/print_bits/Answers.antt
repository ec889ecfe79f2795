-- The bits that `ea_geometry_check::print_bits` reads lie in the two bytes from byte 1 on.
use Rattle.std.proofs.Common.{rules}
use Rattle.structures.specs.PageBits.{bit_byte}
use Rattle.ea_geometry_check.proofs.print_bits.Goals as goal

pub page_is_initialized-requires : goal.page_is_initialized-requires
unfolding bit_byte
page_is_initialized-requires g c = search rules
