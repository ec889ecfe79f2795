-- `fields::convert::u32_from` meets its contract. Assumes nothing.
use Rattle.std.proofs.Common.{rules}
use Rattle.fields.proofs.Numbers.{narrow, too_wide}
use Rattle.fields.proofs.convert.u32_from.Goals as goal

pub returns : goal.returns
returns c = search (rules, narrow, too_wide)
