-- `ea_list::read_extensible_array_chunks` meets its contract. Assumes nothing.
use Rattle.ea_walk.specs.Walk.{list}
use Rattle.ea_list.proofs.read_extensible_array_chunks.Goals as goal

pub returns : goal.returns
unfolding list
returns c = let e = c.list_chunks.ensures in rw c.from_header-index.ensures at e
