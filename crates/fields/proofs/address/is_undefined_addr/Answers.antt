-- `fields::address::is_undefined_addr` meets its contract. Assumes nothing.
use Rattle.std.proofs.Common.{arith}
use Rattle.fields.specs.Fields.{undefined, is_width}
use Rattle.fields.proofs.Fields.{no_undefined}
use Rattle.fields.proofs.Widths.{no_width}
use Rattle.fields.proofs.address.is_undefined_addr.Goals.{in-2, in-4, in-8}
use Rattle.fields.proofs.address.is_undefined_addr.Goals as goal

pub returns-in_default : goal.returns-in_default
returns-in_default c = no_undefined _ _ (no_width _ (λ o. grind arith))

pub returns : goal.returns
unfolding undefined is_width
returns c =
    elim c.match-width.branch [
      | in-2 w ↦ rw (w.undefined-is, w.in-2.is)
      | in-4 w ↦ rw (w.undefined-is, w.in-4.is)
      | in-8 w ↦ rw (w.undefined-is, w.in-8.is)
    ]
