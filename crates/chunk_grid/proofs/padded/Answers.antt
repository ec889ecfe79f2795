-- `chunk_grid::padded` meets its contract. Assumes nothing.
use Rattle.std.proofs.Common.{rules}
use Rattle.chunk_grid.proofs.Members.{front_stored, member_made}
use Rattle.chunk_grid.proofs.padded.Goals as goal

pub returns : goal.returns
returns c =
    let k = c.from_fn.ensures.items in
    front_stored _ _ k.long (member_made _ _ _ (λ i y q t. search rules) _ _ k)
