-- `list_text::Text::put_offsets` meets its contract: the numbers left go behind those that are put. Assumes nothing.
use Prim.Native.Nat.{◌+◌, ◌*◌, ◌/◌, ◌≤◌}
use mathlib.Core.Path.{◌≡◌}
use mathlib.Core.List.{◌++◌}
use lib.ListN.{length, drop}
use Rattle.shapes.specs.Shapes.{numbers_in}
use Rattle.list_text.specs.Printed.{spaced}
use Rattle.list_text.specs.Appended.{room}
use Rattle.list_text.proofs.Puts.{Putting}
use Rattle.list_text.proofs.Text.put_offsets.Given as goal

abbrev pub invariant-loop-number : goal.invariant-loop-number
invariant-loop-number l =
    let rest = l.number-iterator.rest.now in
    (l.number-iterator.size ≡ 8) × (room l.initial.self + 21 * (length rest / 8) ≤ room l.self + 21 * l.n)
    × Putting l.initial.self (spaced (numbers_in l.n (drop l.from l.list))) l.self (spaced (numbers_in (length rest / 8) (rest ++ drop (l.from + 8 * l.n) l.list)))
