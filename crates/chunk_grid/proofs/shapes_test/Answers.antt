-- `chunk_grid::shapes_test` meets its contract. Assumes nothing.
use mathlib.Core.Bool.{true≢false}
use mathlib.Core.Path.{sym}
use Rattle.chunk_grid.proofs.Building.{rank_over, rank_differs, present_differs, maximum_differs, shapes_agree}
use Rattle.chunk_grid.proofs.shapes_test.Goals as goal

pub returns-then-rank-gt32 : goal.returns-then-rank-gt32
returns-then-rank-gt32 c = λ o. rank_over _ _ _ _ o _ c.if-rank-gt32.true

pub returns-then-chunk-rank : goal.returns-then-chunk-rank
returns-then-chunk-rank c = λ o. rank_differs _ _ _ _ o c.if-rank-gt32.false _ c.if-chunk-rank.true

pub returns-then-present-rank : goal.returns-then-present-rank
returns-then-present-rank c = λ o. present_differs _ _ _ _ o c.if-rank-gt32.false c.if-chunk-rank.false _ c.if-present-rank.true

pub returns-then-maximum-rank : goal.returns-then-maximum-rank
returns-then-maximum-rank c = λ o. rw c.in-Some.is (maximum_differs _ _ _ _ o c.if-rank-gt32.false c.if-chunk-rank.false c.if-present-rank.false c.if-maximum-rank.true)

pub returns-else-maximum-rank : goal.returns-else-maximum-rank
returns-else-maximum-rank c = λ o. rw c.in-Some.is (shapes_agree _ _ _ _ o c.if-rank-gt32.false c.if-chunk-rank.false c.if-present-rank.false _ (λ t. c.if-maximum-rank.false))

pub returns-in_default : goal.returns-in_default
returns-in_default c = λ o. shapes_agree _ _ _ _ o c.if-rank-gt32.false c.if-chunk-rank.false c.if-present-rank.false _ (rw c.in_default.is (λ t. absurd (true≢false (sym t))))
