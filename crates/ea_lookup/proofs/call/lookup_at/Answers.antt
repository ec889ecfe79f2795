-- `ea_lookup::call::lookup_at` meets its contract. Assumes nothing.
use Rattle.chunk_grid.specs.Grid.{given}
use Rattle.calls.specs.Call.{grid_given}
use Rattle.ea_walk.specs.Walk.{list}
use Rattle.ea_calls.specs.Call.{call_array, call_elements, call_answer}
use Rattle.ea_lookup.specs.Lookup.{lookup}
use Rattle.ea_lookup.proofs.call.lookup_at.Goals as goal

pub returns : goal.returns
unfolding grid_given given call_answer call_array call_elements list lookup
returns c = c.lookup_at.ensures
