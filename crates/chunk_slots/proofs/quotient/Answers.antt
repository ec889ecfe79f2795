-- `chunk_slots::quotient` meets its contract. Assumes nothing.
use native.Mathlib.Omega.{arith}
use Rattle.chunk_slots.proofs.quotient.Goals as goal

pub returns-then-m-eq1 : goal.returns-then-m-eq1
returns-then-m-eq1 c = rw c.if-m-eq1.true (omega arith)
