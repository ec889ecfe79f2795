-- `chunk_grid::ChunkGrid::test` meets its contract. Assumes nothing.
use Prim.Native.Nat.{ℕ}
use mathlib.Core.Path.{◌≡◌, sym, ◌∙◌}
use mathlib.Core.List.{List}
use native.Mathlib.Omega.{arith}
use lib.ListN.{length, take}
use lib.Seq.{length-take-le}
use Rattle.std.specs.Option.{IfSome}
use Rattle.chunk_grid.proofs.Numbered.{over_32, tests_of}
use borrow.Author.Rules.{rules}
use Rattle.chunk_grid.proofs.ChunkGrid.test.Goals.{After-limits-limits, Else-self-gt32, Start}
use Rattle.chunk_grid.proofs.ChunkGrid.test.Goals as goal

pub returns-then-self-gt32 : goal.returns-then-self-gt32
returns-then-self-gt32 c = over_32 _ c.if-self-gt32.true

sizes : (c : Start) → (length c.args.self.chunk ≡ 32) × (length c.args.self.present ≡ 32) × IfSome c.args.self.maximum (λ l. length l ≡ 32)
sizes c = (search rules, search rules, search rules)

-- a part of `rank` members has this length
part : (c : Else-self-gt32) (l : List ℕ) → length l ≡ 32 → length (take c.args.self.rank l) ≡ c.args.self.rank
part c l h = length-take-le _ l (omega arith)

limited : (c : After-limits-limits) → length c.limits-limits.result ≡ 32
limited c = search rules

pub numbering_test-requires : goal.numbering_test-requires
numbering_test-requires c =
    let p = part (goal.at.numbering_test-requires c).Else-self-gt32 _ (sizes (goal.at.numbering_test-requires c).Start).0 in
    (part (goal.at.numbering_test-requires c).Else-self-gt32 _ (limited (goal.at.numbering_test-requires c).After-limits-limits) ∙ sym p, omega (arith, c.if-self-gt32.false, p))

pub returns : goal.returns
returns c =
    c.numbering_test.ensures ∙ rw c.limits-limits.ensures.0 (tests_of _ c.if-self-gt32.false (sizes (goal.at.returns c).Start))

pub slice_bounds-numbering_test-end : goal.slice_bounds-numbering_test-end
slice_bounds-numbering_test-end c = sym (part (goal.at.slice_bounds-numbering_test-end c).Else-self-gt32 _ (limited (goal.at.slice_bounds-numbering_test-end c).After-limits-limits))

pub slice_bounds-numbering_test-end-2 : goal.slice_bounds-numbering_test-end-2
slice_bounds-numbering_test-end-2 c = sym (part (goal.at.slice_bounds-numbering_test-end-2 c).Else-self-gt32 _ (sizes (goal.at.slice_bounds-numbering_test-end-2 c).Start).0)
