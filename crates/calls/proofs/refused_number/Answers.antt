-- `calls::refused_number` meets its contract. Assumes nothing.
use mathlib.Core.Path.{◌∙◌}
use native.Mathlib.Omega.{arith}
use Rattle.calls.proofs.Answers.{refused_named, refused_beyond}
use Rattle.calls.proofs.refused_number.Goals as goal

pub returns-in_default : goal.returns-in_default
returns-in_default c = refused_named _ _ _ (omega arith) c.if-which-names.true

pub returns-in_default-2 : goal.returns-in_default-2
returns-in_default-2 c = c.number-in_default-2.ensures ∙ refused_beyond _ _ _ (omega arith) c.if-which-names.false
