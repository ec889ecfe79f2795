-- `records::write_elements` meets its contract. Assumes nothing.
use Prim.Native.Nat.{ℕ, ◌+◌, ◌*◌, ◌≤◌}
use mathlib.Core.Path.{◌≡◌}
use mathlib.Core.List.{List, []}
use lib.ListN.{length}
use Rattle.std.specs.Prelude.{Ok}
use Rattle.chunk_grid.specs.Grid.{Grid}
use Rattle.element_form.specs.Form.{stride as stride_of}
use Rattle.index.specs.Index.{Rec}
use Rattle.elements.specs.Runs.{elements_from}
use Rattle.elements.specs.Values.{elements_of, Reads}
use Rattle.records.proofs.Writing.{LeftOf}
use Rattle.records.proofs.write_elements.Given as goal

abbrev pub invariant-loop-left : goal.invariant-loop-left
invariant-loop-left l =
    (l.from + l.left * stride_of l.reader.form ≤ length l.file) × (l.here + l.left ≡ l.slot + l.below) × (length l.out ≡ length l.initial.out)
    × ((grid : Grid) (m : ℕ) (k : List Rec) → Reads l.reader grid m → elements_from (elements_of l.file l.reader grid m) l.pos l.below l.slot (Ok []) ≡ Ok k
    → LeftOf (elements_of l.file l.reader grid m) l.initial.out l.at k l.from l.left l.here l.out l.to)

abbrev pub decreases-loop-left : goal.decreases-loop-left
decreases-loop-left l = l.left
