-- `chunk_grid::count_of` meets its contract. Assumes nothing.
use mathlib.Core.Path.{◌∙◌}
use borrow.Author.Tests.{eq-eqb, ne_eqb}
use Rattle.refusal.specs.Refusals.{largest64}
use Rattle.chunk_grid.specs.Grid.{count_of}
use Rattle.chunk_grid.proofs.Building.{rounded_up}
use Rattle.chunk_grid.proofs.count_of.Goals as goal

pub returns-then-extent-eq18446744073709551615 : goal.returns-then-extent-eq18446744073709551615
unfolding count_of
returns-then-extent-eq18446744073709551615 c = simp (eq-eqb c.args.extent largest64 c.if-extent-eq18446744073709551615.true)

pub returns-else-extent-eq18446744073709551615 : goal.returns-else-extent-eq18446744073709551615
unfolding count_of
returns-else-extent-eq18446744073709551615 c = simp (ne_eqb c.args.extent largest64 c.if-extent-eq18446744073709551615.false) (c.div_ceil.ensures ∙ rounded_up _ _ c.requires)
