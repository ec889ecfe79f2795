-- `ea_header::Parameters::is_served` meets its contract. Assumes nothing.
use mathlib.Core.Path.{◌≡◌, sym, ◌∙◌}
use mathlib.Core.Bool.{◌&&◌}
use native.Mathlib.Omega.{arith}
use lib.Dec.{leb}
use borrow.Author.Tests.{le-leb, lt-leb}
use Rattle.ea_header.specs.Served.{served}
use Rattle.ea_header.proofs.Log.{power_test}
use Rattle.ea_header.proofs.Served.{not_power, power_first}
use Rattle.ea_header.proofs.Parameters.is_served.Goals.{Else-not-is_power_of_two}
use Rattle.ea_header.proofs.Parameters.is_served.Goals as goal

-- what is left to test behind the power of two
rest : (c : Else-not-is_power_of_two)
    → let h = c.args.self in
    served h ≡ leb h.max_nelmts_bits 62 && leb h.super_blk_min_nelmts 32 && leb h.max_dblk_nelmts_bits 32
rest c =
    let n = c.args.self.min_dblk_nelmts in
    power_first c.args.self (sym (power_test n (omega arith)) ∙ sym c.is_power_of_two.ensures ∙ c.if-not-is_power_of_two.false) (omega arith)

pub returns-then-not-is_power_of_two : goal.returns-then-not-is_power_of_two
returns-then-not-is_power_of_two c =
    let n = c.args.self.min_dblk_nelmts in
    not_power c.args.self (sym (power_test n (omega arith)) ∙ sym c.is_power_of_two.ensures ∙ c.if-not-is_power_of_two.true)

pub returns-then-self-gt62 : goal.returns-then-self-gt62
returns-then-self-gt62 c = let h = c.args.self in
    rw (rest (goal.at.returns-then-self-gt62 c).Else-not-is_power_of_two, lt-leb h.max_nelmts_bits 62 c.if-self-gt62.true)

pub returns-then-self-gt32 : goal.returns-then-self-gt32
returns-then-self-gt32 c = let h = c.args.self in
    rw (rest (goal.at.returns-then-self-gt32 c).Else-not-is_power_of_two, le-leb h.max_nelmts_bits 62 c.if-self-gt62.false, lt-leb h.super_blk_min_nelmts 32 c.if-self-gt32.true)

pub returns : goal.returns
returns c = let h = c.args.self in
    rw (rest (goal.at.returns c).Else-not-is_power_of_two, le-leb h.max_nelmts_bits 62 c.if-self-gt62.false, le-leb h.super_blk_min_nelmts 32 c.if-self-gt32.false)
