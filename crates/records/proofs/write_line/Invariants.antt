-- `records::write_line` meets its contract. Assumes nothing.
use Prim.Native.Nat.{ℕ, ◌+◌, ◌-◌, ◌*◌}
use mathlib.Core.Path.{◌≡◌}
use mathlib.Core.List.{List}
use lib.ListN.{length}
use Rattle.chunk_grid.specs.Grid.{Grid}
use Rattle.element_form.specs.Form.{stride as stride_of}
use Rattle.index.specs.Index.{Rec}
use Rattle.elements.specs.Values.{elements_of}
use Rattle.records.proofs.Lines.{Lined}
use Rattle.records.proofs.Writing.{LeftOf}
use Rattle.records.proofs.write_line.Given as goal

abbrev pub invariant-loop-i : goal.invariant-loop-i
invariant-loop-i here =
    let r = here.sized.reader in
    (length here.out ≡ length here.initial.out)
    × ((grid : Grid) (m s : ℕ) (l : List Rec) → Lined here.file r here.corner here.dim here.first here.step here.pos here.n grid m s l
    → LeftOf (elements_of here.file r grid m) here.initial.out here.at l (here.pos + here.i * stride_of r.form) (here.n - here.i) (s + here.i) here.out here.to)
