-- `eals::answer::list_chunks` meets its contract. Assumes nothing.
use mathlib.Core.Path.{◌≡◌}
use Prim.Native.Nat.{◌+◌, ◌*◌, ◌-◌}
use native.Mathlib.Omega.{arith}
use Rattle.ea_walk.specs.Walk.{list}
use Rattle.ea_calls.specs.Call.{call_array, call_elements, call_answer}
use Rattle.eals.specs.Program.{listing_of, shape_at}
use Rattle.eals.proofs.answer.list_chunks.Goals as goal

pub returns : goal.returns
unfolding listing_of shape_at call_answer call_array call_elements list
returns c =
    let rank = c.args.question.rank in
    let told = c.list_at.ensures in
    let first : 48 + 8 * rank - 48 ≡ 8 * rank = omega arith in
    let second : 48 + 16 * rank - (48 + 8 * rank) ≡ 8 * rank = omega arith in
    let third : 48 + 24 * rank - (48 + 16 * rank) ≡ 8 * rank = omega arith in
    record { value = rw (first, second, third) at told.0; list_after = rw (first, second, third) at told.1 }
