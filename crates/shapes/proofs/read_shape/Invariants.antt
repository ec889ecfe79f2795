-- `shapes::read_shape` meets its contract: the numbers that are left go behind those that are stored. Assumes nothing.
use mathlib.Core.Path.{◌≡◌}
use lib.ListN.{length, drop}
use lib.Seq.{sets}
use Rattle.shapes.specs.Shapes.{numbers_in}
use Rattle.shapes.proofs.read_shape.Given as goal

abbrev pub invariant-loop-i : goal.invariant-loop-i
invariant-loop-i l = (length l.number-items ≡ l.n) × (sets l.number-items l.i (drop l.i (numbers_in l.n l.bytes)) ≡ numbers_in l.n l.bytes)
