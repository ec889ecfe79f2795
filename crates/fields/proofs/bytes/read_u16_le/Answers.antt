-- `fields::bytes::read_u16_le` meets its contract. Assumes nothing.
use mathlib.Core.Path.{◌∙◌}
use Rattle.fields.proofs.LittleEndian.{two}
use Rattle.fields.proofs.bytes.read_u16_le.Goals as goal

pub returns : goal.returns
returns c = c.from_le_bytes.ensures ∙ two c.args.s.now c.args.pos c.requires
