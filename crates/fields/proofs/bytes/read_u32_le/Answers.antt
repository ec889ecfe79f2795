-- `fields::bytes::read_u32_le` meets its contract. Assumes nothing.
use mathlib.Core.Path.{◌∙◌}
use Rattle.fields.proofs.LittleEndian.{four}
use Rattle.fields.proofs.bytes.read_u32_le.Goals as goal

pub returns : goal.returns
returns c = c.from_le_bytes.ensures ∙ four c.args.s.now c.args.pos c.requires
