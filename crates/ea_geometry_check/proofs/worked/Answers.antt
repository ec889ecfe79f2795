-- The parameters of `ea_geometry_check::worked` are served.
use Rattle.std.proofs.Common.{refl, arith}
use Rattle.ea_header.specs.Log.{log2_in}
use Rattle.ea_geometry_check.proofs.worked.Goals as goal

pub invariant_of-result : goal.invariant_of-result
unfolding log2_in
invariant_of-result c =
    let made = c.parameters_of-parameters.ensures in
    record {
      served = record {
        power = rw made.min_dblk_nelmts_value.0 refl;
        least = omega arith;
        bits = omega arith;
        minimum = omega arith;
        page = omega arith;
      };
    }
