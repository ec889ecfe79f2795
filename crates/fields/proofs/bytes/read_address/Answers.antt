-- `fields::bytes::read_address` meets its contract. Assumes nothing.
use native.Mathlib.Omega.{arith}
use Rattle.fields.specs.Fields.{address_at}
use Rattle.fields.proofs.Widths.{width_le}
use Rattle.fields.proofs.bytes.read_address.Goals as goal

pub read_le-requires : goal.read_le-requires
read_le-requires c = omega (arith, width_le _ c.requires.1)

pub returns : goal.returns
unfolding address_at
returns c = c.read_le.ensures.0
