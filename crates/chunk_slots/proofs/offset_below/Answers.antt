-- `chunk_slots::offset_below` meets its contract. Assumes nothing.
use native.Mathlib.Omega.{arith}
use borrow.Author.Tests.{lt-ltb, le-ltb}
use Rattle.chunk_slots.proofs.offset_below.Goals as goal

pub overflow_mul-result : goal.overflow_mul-result
overflow_mul-result c = omega (arith, c.requires c.if-q-bound.true)

pub returns-then-q-bound : goal.returns-then-q-bound
returns-then-q-bound c = simp (lt-ltb c.args.q c.args.bound c.if-q-bound.true)

pub returns-else-q-bound : goal.returns-else-q-bound
returns-else-q-bound c = simp (le-ltb c.args.q c.args.bound c.if-q-bound.false)
