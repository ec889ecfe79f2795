-- `elements::chunk_bytes` meets its contract: the figure of the product so far is kept. Assumes nothing.
use Rattle.std.proofs.Common.{◌≡◌, ◌*◌, take, fold, ◌∙◌, rules, arith}
use Rattle.refusal.specs.Refusals.{figure}
use Rattle.chunk_grid.specs.Grid.{given}
use Rattle.chunk_grid.specs.Values.{grid_of}
use Rattle.elements.specs.Elements.{chunk_bytes}
use Rattle.elements.proofs.ChunkBytes.{capped}
use Rattle.chunk_slots.proofs.AnyGrid.{rank_small}
use Rattle.elements.proofs.chunk_bytes.Goals as goal

pub shared_ref_as_front-iter : goal.shared_ref_as_front-iter
shared_ref_as_front-iter c = rank_small c.args.numbering.now

pub returns : goal.returns
unfolding chunk_bytes grid_of given figure
returns c =
    let g = c.args.numbering.now.grid.now in
    let n = c.args.element_bytes in
    let e : c.fold.result ≡ fold (λ b x. figure (b * x)) n (take g.rank g.chunk) = search rules in
    e ∙ capped (take g.rank g.chunk) n (omega arith)
