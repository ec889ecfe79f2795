-- How much room records take. Assumes nothing.
use mathlib.Core.Path.{◌≡◌, refl}
use mathlib.Core.Bool.{Bool, true, false}
use mathlib.Core.List.{List}
use Prim.Native.Nat.{ℕ, ◌*◌, ◌≤◌}
use native.Mathlib.Nat.{le-div_iff_mul-le}
use native.Mathlib.Omega.{arith}
use lib.Dec.{ltb}
use lib.ListN.{length}
use borrow.Author.Tests.{ltb-false}
use Rattle.std.specs.Prelude.{Err, Ok}
use Rattle.refusal.specs.declared.Refusal.TheVariants.{ListTooSmall}
use Rattle.refusal.specs.Refusals.{refuse, Checked, Outcome}
use Rattle.refusal.specs.Outcome.{◌yields◌, in_room}
use Rattle.refusal.specs.Values.{counted_of}
use Rattle.records.specs.Records.{record_length}
use Rattle.index.specs.Index.{Listing}
use Rattle.ea_calls.specs.Call.{call_answer}
use Rattle.questions.specs.declared.Question.{Question}
use Rattle.eals.specs.Program.{listing_of, records_counted}

-- a lent list has room for the records that are counted
in_room_lem : (a : Listing) (room : ℕ) → records_counted (counted_of (in_room a room)) ≤ room
unfolding in_room counted_of records_counted refuse ◌yields◌
in_room_lem (Err r) room = omega arith
in_room_lem (Ok l) room = go (ltb room (length l)) refl
  where
    go : (b : Bool) → ltb room (length l) ≡ b → records_counted (counted_of (refuse (ListTooSmall (length l)) b yields Ok l)) ≤ room
    go true e = omega arith
    go false e = ltb-false room (length l) e

passed_count : (t : Checked) (a : Listing) (n : ℕ) → records_counted (counted_of a) ≤ n → records_counted (counted_of (t yields a)) ≤ n
unfolding ◌yields◌ counted_of records_counted
passed_count (Ok tt) a n h = h
passed_count (Err r) a n h = omega arith

pub counted_room : (q : Question) (numbers file : List ℕ) (room : ℕ) (counted : Outcome ℕ) → counted ≡ counted_of (listing_of q numbers file room)
    → records_counted counted * record_length q.rank ≤ room
unfolding listing_of call_answer record_length
counted_room q numbers file room counted e =
    rw e ((le-div_iff_mul-le {k = record_length q.rank} (omega arith)).0 (passed_count _ _ _ (in_room_lem _ _)))
