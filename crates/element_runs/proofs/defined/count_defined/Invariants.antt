-- `element_runs::defined::count_defined` meets its contract. Assumes nothing.
use Prim.Native.Nat.{◌+◌, ◌-◌, ◌*◌, ◌≤◌}
use mathlib.Core.Path.{◌≡◌}
use Rattle.element_runs.specs.Defined.{defined_count}
use Rattle.element_runs.proofs.defined.count_defined.Given as goal

abbrev pub invariant-loop-i : goal.invariant-loop-i
invariant-loop-i l =
    (l.count ≤ l.i)
    × (l.count + defined_count l.file (l.pos + l.i * l.stride) (l.n - l.i) l.stride l.width ≡ defined_count l.file l.pos l.n l.stride l.width)
