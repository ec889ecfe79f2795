-- `eals::answer::answer` meets its contract. Assumes nothing.
use mathlib.Core.Path.{◌≡◌, sym, ◌∙◌}
use native.Mathlib.Omega.{arith}
use Rattle.std.specs.Prelude.{Some}
use Rattle.questions.specs.Line.{question_of}
use Rattle.questions.proofs.Bounds.{rank_small}
use Rattle.eals.proofs.Bounds.{counted_room}
use Rattle.eals.proofs.Answers.{asked, unread, put_within}
use Rattle.list_text.proofs.Puts.{put_as}
use Rattle.eals.proofs.answer.answer.Goals.{In-Some}
use Rattle.eals.proofs.answer.answer.Goals as goal

-- what is asked
asked_is : (c : In-Some) → question_of c.args.input.now ≡ Some c.in-Some.question
asked_is c = sym c.parse.ensures.value ∙ c.in-Some.is

pub list_chunks-counted-requires : goal.list_chunks-counted-requires
list_chunks-counted-requires c = omega (arith, rank_small _ _ (asked_is (goal.at.list_chunks-counted-requires c).In-Some), c.requires)

pub put_counted-requires : goal.put_counted-requires
put_counted-requires c =
    let room = counted_room c.in-Some.question _ _ _ _ c.list_chunks-counted.ensures.value in
    (omega (arith, room, c.requires), omega (arith, c.requires), omega (arith, c.requires))

pub returns-in_default : goal.returns-in_default
returns-in_default c =
    let told = c.put_text.ensures in
    let put = put_as told _ (unread _ _ _ (sym c.parse.ensures.value ∙ c.in_default.is)) in
    record { put = put; prefix_len = put_within put (omega (arith, told.ends, c.requires)) }

pub returns : goal.returns
returns c =
    let listed = c.list_chunks-counted.ensures in
    let told = c.put_counted.ensures in
    let text = asked _ _ _ _ (asked_is (goal.at.returns c).In-Some) _ _ _ _ c.parse.ensures.numbers_after c.file_of.ensures listed.value listed.list_after in
    let put = put_as told.put _ text in
    record { put = put; prefix_len = put_within put (omega (arith, told.upper_bound, c.requires)) }
