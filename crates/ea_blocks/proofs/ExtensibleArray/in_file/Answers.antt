-- `ea_blocks::ExtensibleArray::in_file` meets its contract. Assumes nothing.
use Rattle.fields.proofs.Widths.{width_le}
use Rattle.ea_blocks.proofs.ExtensibleArray.in_file.Goals as goal

pub invariant_of-extents-2 : goal.invariant_of-extents-2
invariant_of-extents-2 c = record { legal = width_le _ c.requires.wide }
