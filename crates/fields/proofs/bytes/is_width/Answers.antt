-- `fields::bytes::is_width` meets its contract. Assumes nothing.
use mathlib.Core.Path.{sym}
use Rattle.std.proofs.Common.{arith}
use Rattle.fields.proofs.Widths.{is_width_lem, no_width}
use Rattle.fields.proofs.bytes.is_width.Goals as goal

pub returns-in-2 : goal.returns-in-2
returns-in-2 c = sym (is_width_lem _ c.in-2.is)

pub returns-in_default : goal.returns-in_default
returns-in_default c = sym (no_width _ (λ o. grind arith))
