-- `fields::bytes::read_variable_length` meets its contract. Assumes nothing.
use mathlib.Core.Path.{sym, ◌∙◌}
use native.Mathlib.Omega.{arith}
use Rattle.std.proofs.Common.{rules}
use Rattle.refusal.specs.Outcome.{◌yields◌}
use Rattle.fields.specs.Values.{size_field}
use Rattle.fields.proofs.Fields.{inside, over_eight, to_eight}
use Rattle.fields.proofs.bytes.read_variable_length.Goals as goal

pub returns-then-width-gt8 : goal.returns-then-width-gt8
unfolding size_field ◌yields◌
returns-then-width-gt8 c = let e = over_eight c.args.s.now c.args.pos c.args.width (omega arith) in search rules

pub returns-in_err-ensure_len : goal.returns-in_err-ensure_len
unfolding size_field ◌yields◌
returns-in_err-ensure_len c = let e = to_eight c.args.s.now c.args.pos c.args.width (omega arith) in search rules

pub read_le-requires : goal.read_le-requires
read_le-requires c = (inside _ _ _ (sym c.in_ok-ensure_len.was ∙ c.ensure_len.ensures), omega arith)

pub returns : goal.returns
unfolding size_field ◌yields◌
returns c = let e = to_eight c.args.s.now c.args.pos c.args.width (omega arith) in search rules
