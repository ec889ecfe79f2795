-- `walked_index::list::write_walk` meets its contract. Assumes nothing.
use Prim.Native.Nat.{◌-◌, ◌≤◌}
use mathlib.Core.Path.{◌≡◌}
use mathlib.Core.List.{List}
use lib.ListN.{length}
use Rattle.index.specs.Index.{Rec}
use Rattle.located.proofs.Written.{Written}
use Rattle.walked_index.specs.Walked.{Walked}
use Rattle.walked_index.proofs.Walked.{walked_in}
use Rattle.walked_index.proofs.list.write_walk.Given as goal

abbrev pub invariant-loop-slot : goal.invariant-loop-slot
invariant-loop-slot g here =
    let i = g.I.WalkedIndex in
    (here.slot ≤ here.reader.count)
    × (length here.list ≡ length here.initial.list)
    × ((l : List Rec)
    (w : Walked (i.walk here.index here.file) (i.form here.index) (i.count here.index) here.file here.reader l)
    → Written (walked_in (i.located here.index here.file) w) l here.initial.list here.list here.at here.slot)

abbrev pub decreases-loop-slot : goal.decreases-loop-slot
decreases-loop-slot g l = l.reader.count - l.slot
