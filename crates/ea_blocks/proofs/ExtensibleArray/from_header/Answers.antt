-- `ea_blocks::ExtensibleArray::from_header` meets its contract. Assumes nothing.
use mathlib.Core.Path.{refl}
use Rattle.ea_blocks.proofs.ExtensibleArray.from_header.Goals as goal

pub returns : goal.returns
returns c = rw (← c.from_header.ensures.0, ← c.from_header.ensures.1) refl
