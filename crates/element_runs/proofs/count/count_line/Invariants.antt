-- `element_runs::count::count_line` meets its contract. Assumes nothing.
use Prim.Native.Nat.{ℕ, ◌+◌, ◌-◌, ◌*◌, ◌<◌, ◌≤◌}
use mathlib.Core.Path.{◌≡◌}
use Rattle.std.specs.Prelude.{Ok, true}
use Rattle.chunk_grid.specs.Grid.{Grid}
use Rattle.chunk_grid.specs.Values.{in_extent, offsets_of}
use Rattle.element_form.specs.Form.{stride as stride_of}
use Rattle.elements.specs.Values.{elements_of, Reads}
use Rattle.element_runs.proofs.Counting.{Counting}
use Rattle.element_runs.proofs.count.count_line.Given as goal

abbrev pub invariant-loop-i : goal.invariant-loop-i
invariant-loop-i l =
    let r = l.sized.reader in
    (l.count ≤ l.i)
    × ((grid : Grid) (m s : ℕ) → Reads r grid m → s + l.n ≤ r.count → ((j : ℕ) → j < l.n → offsets_of (in_extent grid (s + j)) ≡ Ok true)
    → Counting (elements_of l.file r grid m) l.pos l.n s (l.pos + l.i * stride_of r.form) (l.n - l.i) (s + l.i) l.count)
