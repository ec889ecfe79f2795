-- `ea_list::call::list_at` meets its contract. Assumes nothing.
use Rattle.ea_walk.specs.Walk.{list}
use Rattle.ea_calls.specs.Call.{call_array, call_elements, call_answer}
use Rattle.ea_list.proofs.call.list_at.Goals as goal

pub returns : goal.returns
unfolding call_answer call_array call_elements list
returns c = c.list_at.ensures
