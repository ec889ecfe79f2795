-- `eals::answer::put_counted` meets its contract. Assumes nothing.
use mathlib.Core.Path.{◌≡◌}
use native.Mathlib.Omega.{arith}
use Rattle.std.specs.Prelude.{Ok}
use Rattle.eals.specs.Program.{records_counted, counted_text}
use Rattle.eals.proofs.answer.put_counted.Goals as goal

pub put_list-requires : goal.put_list-requires
unfolding records_counted
put_list-requires c =
    let counted : c.args.counted ≡ Ok c.in-Ok.n = c.in-Ok.is in
    (rw counted at c.requires.0, omega (arith, c.requires))

pub returns-in-Ok : goal.returns-in-Ok
unfolding counted_text
returns-in-Ok c =
    let told = c.put_list.ensures in
    rw c.in-Ok.is (record { put = told.put; upper_bound = omega (arith, c.requires) })

pub returns-in-Err : goal.returns-in-Err
unfolding counted_text
returns-in-Err c =
    let told = c.put_refusal.ensures in
    rw c.in-Err.is (record { put = told.put; upper_bound = omega (arith, c.requires) })
