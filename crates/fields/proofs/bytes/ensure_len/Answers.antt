-- `fields::bytes::ensure_len` meets its contract. Assumes nothing.
use native.Mathlib.Omega.{arith}
use Rattle.refusal.specs.Refusals.{figure}
use Rattle.fields.proofs.Fields.{in_file_lem, past_end}
use Rattle.fields.proofs.bytes.ensure_len.Goals as goal

pub returns-then-end-len : goal.returns-then-end-len
returns-then-end-len c = in_file_lem _ _ _ (omega arith)

pub returns-else-end-len : goal.returns-else-end-len
unfolding figure
returns-else-end-len c = let a = c.args in rw c.saturating_add-end.ensures (past_end a.s.now a.pos a.needed (omega arith))
