-- `ea_geometry_check::compare_parameters` tests that the parameters are served.
use Rattle.std.proofs.Common.{sym, ◌∙◌}
use Rattle.ea_header.proofs.Served.{serves}
use Rattle.ea_geometry_check.proofs.compare_parameters.Goals as goal

pub invariant_of-sizes : goal.invariant_of-sizes
invariant_of-sizes c = record { served = serves _ (sym c.is_served.ensures ∙ c.if-not-is_served.false) }
