-- `chunk_grid::ChunkGrid::numbering` meets its contract. Assumes nothing.
use Prim.Native.Nat.{ℕ, ◌≤◌}
use mathlib.Core.Path.{◌≡◌, refl, sym, ◌∙◌}
use mathlib.Core.List.{List, ◌++◌}
use native.Mathlib.Omega.{arith}
use lib.ListN.{length, take, drop}
use lib.Seq.{length-take-le}
use Rattle.std.proofs.lemmas.List.{drop-replicate}
use Rattle.std.specs.Prelude.{Ok}
use Rattle.std.specs.Option.{IfSome}
use Rattle.chunk_grid.specs.Grid.{grid_test}
use Rattle.chunk_grid.specs.Values.{grid_of, Describes}
use Rattle.chunk_grid.proofs.Numbered.{none_over, rank_small, tests_of, numbering_is}
use borrow.Author.Rules.{rules}
use Rattle.chunk_grid.proofs.ChunkGrid.numbering.Goals.{After-limits-limits, After-number-rotated, Start}
use Rattle.chunk_grid.proofs.ChunkGrid.numbering.Goals as goal

passed : (c : Start) → grid_test (grid_of c.args.self.now) ≡ Ok tt
passed c = c.requires

small : (c : Start) → c.args.self.now.rank ≤ 32
small c = rank_small c.args.self.now (passed c)

sizes : (c : After-limits-limits) → (length c.args.self.now.chunk ≡ 32) × (length c.args.self.now.present ≡ 32) × IfSome c.args.self.now.maximum (λ l. length l ≡ 32)
sizes c = (search rules, search rules, c.limits-limits.ensures.1)

-- a part of `rank` members has this length
part : (c : Start) (l : List ℕ) → length l ≡ 32 → c.args.self.now.rank ≡ length (take c.args.self.now.rank l)
part c l h = sym (length-take-le _ l (omega (arith, small c)))

limited : (c : After-limits-limits) → length c.limits-limits.result ≡ 32
limited c = search rules

pub slice_bounds-counts-end : goal.slice_bounds-counts-end
slice_bounds-counts-end c = small (goal.at.slice_bounds-counts-end c).Start

pub slice_bounds-bound-end : goal.slice_bounds-bound-end
slice_bounds-bound-end c = small (goal.at.slice_bounds-bound-end c).Start

pub slice_bounds-down-end : goal.slice_bounds-down-end
slice_bounds-down-end c = small (goal.at.slice_bounds-down-end c).Start

pub slice_bounds-number-end : goal.slice_bounds-number-end
slice_bounds-number-end c = part (goal.at.slice_bounds-number-end c).Start _ (omega arith)

pub slice_bounds-number-end-2 : goal.slice_bounds-number-end-2
slice_bounds-number-end-2 c = part (goal.at.slice_bounds-number-end-2 c).Start _ (omega arith)

pub slice_bounds-number-end-3 : goal.slice_bounds-number-end-3
slice_bounds-number-end-3 c = part (goal.at.slice_bounds-number-end-3 c).Start _ (omega arith)

pub slice_bounds-limits-end : goal.slice_bounds-limits-end
slice_bounds-limits-end c = omega (arith, small (goal.at.slice_bounds-limits-end c).Start, limited (goal.at.slice_bounds-limits-end c).After-limits-limits)

pub slice_bounds-number-end-4 : goal.slice_bounds-number-end-4
slice_bounds-number-end-4 c = part (goal.at.slice_bounds-number-end-4 c).Start _ (limited (goal.at.slice_bounds-number-end-4 c).After-limits-limits)

pub slice_bounds-number-end-5 : goal.slice_bounds-number-end-5
slice_bounds-number-end-5 c = part (goal.at.slice_bounds-number-end-5 c).Start _ (sizes (goal.at.slice_bounds-number-end-5 c).After-limits-limits).1

pub slice_bounds-number-end-6 : goal.slice_bounds-number-end-6
slice_bounds-number-end-6 c = part (goal.at.slice_bounds-number-end-6 c).Start _ (sizes (goal.at.slice_bounds-number-end-6 c).After-limits-limits).0

pub number-rotated-requires : goal.number-rotated-requires
number-rotated-requires c =
    let before = goal.at.number-rotated-requires c in
    let t = before.Start in
    let p = part t in
    let s = sizes before.After-limits-limits in
    let e = p c.args.self.now.chunk s.0 in
    (sym (p _ (omega arith)) ∙ e, sym (p _ (omega arith)) ∙ e, sym (p _ (omega arith)) ∙ e, sym (p _ (limited before.After-limits-limits)) ∙ e, sym (p _ s.1) ∙ e, rw c.limits-limits.ensures.0 (tests_of c.args.self.now (small t) s ∙ passed t))

-- what is made describes the grid, whatever lies behind it, and that is kept
described : (c : After-number-rotated) (x y z : List ℕ)
    → let k = c.args.self.now in
    let n = c.number-rotated in
    Describes k.rank n.result.0 n.result.1 k.chunk (n.new.counts ++ x) (n.new.bound ++ y) (n.new.down ++ z) (grid_of k)
    × ((drop k.rank (n.new.counts ++ x) ≡ x) × (drop k.rank (n.new.bound ++ y) ≡ y) × (drop k.rank (n.new.down ++ z) ≡ z))
described c x y z =
    let before = goal.at.After-number-rotated c in
    let t = before.Start in
    let p = part t in
    let k = c.args.self.now in
    numbering_is k (small t) (sizes before.After-limits-limits) (passed t) _ _ _ x y z _ _ (c.number-rotated.auto.counts ∙ sym (p _ (omega arith)))
    (c.number-rotated.auto.bound ∙ sym (p _ (omega arith))) (c.number-rotated.auto.down ∙ sym (p _ (omega arith)))
    (none_over k.present k.rank c.limits-limits.ensures.2) (rw c.limits-limits.ensures.0 at c.number-rotated.ensures)

pub invariant_of-result : goal.invariant_of-result
invariant_of-result c =
    record { described = ∣ (grid_of c.args.self.now, (described (goal.at.invariant_of-result c).After-number-rotated _ _ _).0) ∣₁ }

pub returns-clause-numbers : goal.returns-clause-numbers
returns-clause-numbers c =
    let d = (described (goal.at.returns-clause-numbers c).After-number-rotated _ _ _).0 in
    (refl, d.numbered, d.counted, d.extended)

pub returns-clause-kept : goal.returns-clause-kept
returns-clause-kept c =
    let k = (described (goal.at.returns-clause-kept c).After-number-rotated _ _ _).1 in
    let r = c.args.self.now.rank in
    (k.0 ∙ drop-replicate r 32 0, k.1 ∙ drop-replicate r 32 0, k.2 ∙ drop-replicate r 32 0)

pub shared_ref_as_front-number : goal.shared_ref_as_front-number
shared_ref_as_front-number c = small (goal.at.shared_ref_as_front-number c).Start
