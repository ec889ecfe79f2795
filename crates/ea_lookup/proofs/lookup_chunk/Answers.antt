-- `ea_lookup::lookup_chunk` meets its contract. Assumes nothing.
use Rattle.ea_walk.specs.Walk.{list}
use Rattle.ea_lookup.specs.Lookup.{lookup}
use Rattle.ea_lookup.proofs.lookup_chunk.Goals as goal

pub returns : goal.returns
unfolding list lookup
returns c = let e = c.lookup_chunk.ensures in rw c.from_header-index.ensures at e
