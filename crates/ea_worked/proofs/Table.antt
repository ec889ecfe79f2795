-- The table of starred values: every row is computed; the refusals' numbers and figures too.
use mathlib.Core.Path.{refl}
use Rattle.refusal.specs.Numbers.{number_of, first_of, second_of}
use Rattle.ea_worked.specs.Worked.{grid}
use Rattle.ea_worked.specs.Table.{Agree, table, refusals}
use Rattle.ea_worked.proofs.Opened.{opened}

pub table_agrees : Agree table
unfolding opened grid number_of first_of second_of Agree table
table_agrees = (refl, (refl, (refl, (refl, (refl, (refl, (refl, (refl, (refl, (refl, (refl, (refl, (refl, (refl, (refl, (refl, (refl, (refl, (refl, (refl, (refl, (refl, (refl, (refl, (refl, (refl, (refl, (refl, (refl, (refl, (refl, tt)))))))))))))))))))))))))))))))

pub refusals_agree : Agree refusals
unfolding number_of first_of second_of Agree refusals
refusals_agree = (refl, (refl, (refl, (refl, (refl, (refl, (refl, (refl, (refl, (refl, (refl, (refl, (refl, (refl, (refl, (refl, (refl, (refl, (refl, (refl, (refl, (refl, (refl, tt)))))))))))))))))))))))
