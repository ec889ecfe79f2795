-- `span_count::count::count_blocks` meets its contract. Assumes nothing.
use mathlib.Core.Path.{refl, ◌∙◌}
use native.Mathlib.Nat.{sub-zero}
use Rattle.std.proofs.Common.{rules, tests}
use Rattle.std.proofs.lemmas.Iterator.{YieldsList-from_range}
use Rattle.std.proofs.lemmas.Iterator.Consumers.{YieldsList-at, YieldsList-from_filter, count_from_yields_List}
use Rattle.ea_blocks.specs.Values.{array_in}
use Rattle.span_count.proofs.SuperBlocks.{is_pointed}
use Rattle.span_count.proofs.Counting.{pointed, pointed_spans}
use Rattle.span_count.proofs.count.count_blocks.Goals as goal

pub returns : goal.returns
returns c =
    let row = c.args.row in
    rw (← c.blocks-blocks.ensures) (count_from_yields_List _ _ c.count.ensures.ran
    (YieldsList-from_filter _ (pointed (array_in row.array.array) row.u)
    (YieldsList-at c.filter-pointed.ensures.source (YieldsList-from_range 0 c.blocks-blocks.result c.blocks-blocks.result refl (sub-zero _))) c.filter-pointed.ensures.closure
    (λ x b q k. (search rules, search (rules, tests, is_pointed))))
    ∙ pointed_spans _ _ _ 0)
