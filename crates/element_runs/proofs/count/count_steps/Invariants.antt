-- `element_runs::count::count_steps` meets its contract. Assumes nothing.
use Prim.Native.Nat.{ℕ}
use Rattle.chunk_grid.specs.Grid.{Grid}
use Rattle.elements.specs.Values.{elements_of, Reads}
use Rattle.element_runs.proofs.Counting.{Counting}
use Rattle.element_runs.proofs.count.count_steps.Given as goal

abbrev pub invariant-loop-left : goal.invariant-loop-left
invariant-loop-left l =
    (grid : Grid) (m : ℕ) → Reads l.sized.reader grid m → Counting (elements_of l.file l.sized.reader grid m) l.pos l.n l.slot l.at l.left l.here l.count

abbrev pub decreases-loop-left : goal.decreases-loop-left
decreases-loop-left l = l.left
