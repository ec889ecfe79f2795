-- `list_text::store_digits` meets its contract: each digit is stored before those behind it. Assumes nothing.
use native.Mathlib.Omega.{arith}
use Rattle.list_text.proofs.Digits.{storing_first, storing_on, storing_last, storing_end}
use Rattle.list_text.proofs.store_digits.Goals as goal

pub loop-first-init : goal.loop-first-init
loop-first-init c = storing_first _ _ c.ranges.n.fits c.told-digits

pub returns-then-rest-eq0-clause-digits : goal.returns-then-rest-eq0-clause-digits
returns-then-rest-eq0-clause-digits c = storing_last c.loop-first-test.true c.loop-first.invariant c.if-rest-eq0.true

pub loop-first-preserved : goal.loop-first-preserved
loop-first-preserved c = storing_on c.loop-first-test.true c.loop-first.invariant (omega (arith, c.if-rest-eq0.false))

pub returns-clause-digits : goal.returns-clause-digits
returns-clause-digits c = storing_end (omega (arith, c.loop-first-test.false)) c.loop-first.invariant
