-- `ea_blocks::pointers::read_pointer` meets its contract. Assumes nothing.
use Rattle.fields.specs.Fields.{undefined_at}
use Rattle.ea_blocks.specs.Values.{pointer_of}
use Rattle.ea_blocks.proofs.pointers.read_pointer.Goals as goal

pub returns-then-is_undefined_addr : goal.returns-then-is_undefined_addr
unfolding pointer_of undefined_at
returns-then-is_undefined_addr c = rw (← c.read_address-address.ensures, ← c.is_undefined_addr.ensures, c.if-is_undefined_addr.true)

pub returns-else-is_undefined_addr : goal.returns-else-is_undefined_addr
unfolding pointer_of undefined_at
returns-else-is_undefined_addr c = rw (← c.read_address-address.ensures, ← c.is_undefined_addr.ensures, c.if-is_undefined_addr.false)
