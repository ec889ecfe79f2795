-- `chunk_grid::numbering_test` meets its contract. Assumes nothing.
use mathlib.Core.Path.{◌≡◌, sym, ap, ◌∙◌}
use mathlib.Core.Bool.{false}
use native.Mathlib.Omega.{arith}
use lib.ListN.{length, length-append}
use lib.Seq.{length-take-le, take_at}
use Rattle.chunk_grid.specs.Grid.{pairwise, count_of, has_zero}
use Rattle.chunk_grid.proofs.Order.{length-pairwise}
use Rattle.chunk_grid.proofs.Members.{any_list}
use Rattle.chunk_grid.proofs.Numbered.{zero_length, no_zero_length}
use Rattle.chunk_grid.proofs.numbering_test.Goals.{After-pairwise_into, After-contains, Else-contains}
use Rattle.chunk_grid.proofs.numbering_test.Goals as goal

zero : (c : After-contains) → c.contains.result ≡ has_zero c.args.chunk.now
unfolding has_zero
zero c = c.contains.ensures.value ∙ any_list _ _

pub returns-then-contains : goal.returns-then-contains
returns-then-contains c =
    zero_length _ _ _ (sym (zero (goal.at.returns-then-contains c).After-contains) ∙ c.if-contains.true)

no_zero : (c : Else-contains) → has_zero c.args.chunk.now ≡ false
no_zero c = sym (zero (goal.at.Else-contains c).After-contains) ∙ c.if-contains.false

pub pairwise_into-requires : goal.pairwise_into-requires
pairwise_into-requires c = (length-take-le _ _ (omega arith), c.requires.0, no_zero (goal.at.pairwise_into-requires c).Else-contains, λ a b pos. pos)

-- the counts stand in front
counted : (c : After-pairwise_into) → c.pairwise_into.new.out ≡ pairwise count_of c.args.limits.now c.args.chunk.now
counted c = c.pairwise_into.ensures count_of (λ a b r pos e. e)

stored : (c : After-pairwise_into) → length c.pairwise_into.new.out ≡ length c.args.chunk.now
stored c = let p = c.requires.0 in ap length (counted c) ∙ length-pairwise _ _ _ p ∙ p

pub returns : goal.returns
returns c =
    let made = (goal.at.returns c).After-pairwise_into in
    let e = take_at c.pairwise_into.new.out _ _ (stored made) ∙ counted made in
    c.counts_test.ensures ∙ no_zero_length _ _ _ (no_zero (goal.at.returns c).Else-contains) _ e

pub slice_bounds-pairwise_into-end : goal.slice_bounds-pairwise_into-end
slice_bounds-pairwise_into-end c = sym (length-take-le _ _ (omega arith))

pub slice_bounds-counts-end-2 : goal.slice_bounds-counts-end-2
slice_bounds-counts-end-2 c = simp length-append (omega (arith, stored (goal.at.slice_bounds-counts-end-2 c).After-pairwise_into))

pub slice_bounds-counts_test-end : goal.slice_bounds-counts_test-end
slice_bounds-counts_test-end c = sym (length-take-le _ _ (simp length-append (omega (arith, stored (goal.at.slice_bounds-counts_test-end c).After-pairwise_into))))
