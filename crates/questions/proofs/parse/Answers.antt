-- `questions::parse` meets its contract. Assumes nothing.
use mathlib.Core.Bool.{false}
use mathlib.Core.List.{List}
use mathlib.Core.Path.{◌≡◌, refl, ap}
use Prim.Native.Nat.{ℕ}
use native.Mathlib.Omega.{arith}
use lib.ListN.{length}
use Rattle.questions.specs.Line.{line_of, fits, question_of, numbers_stored}
use Rattle.questions.proofs.Inputs.{line_within, line_unended, line_long, file_long, input_fits}
use Rattle.questions.proofs.parse.Goals.{After-until-line}
use Rattle.questions.proofs.parse.Goals.{then-line-input-via-then-line-input, then-line-input-via-else-line-input+then-line-gt4095, then-line-input-via-else-line-input+else-line-gt4095+then-file-gt60000}
use Rattle.questions.proofs.parse.Goals as goal

-- how long the line is
line : (c : After-until-line) → length c.until-line.result.now ≡ length (line_of c.args.input.now)
unfolding line_of
line c = ap (λ (l : List ℕ). length l) c.until-line.ensures.result_value

pub returns-then-line-input : goal.returns-then-line-input
unfolding question_of numbers_stored
returns-then-line-input c =
    let input = c.args.input.now in
    let length_is = line (goal.at.returns-then-line-input c).After-until-line in
    let file = ap (λ (l : List ℕ). length l) c.file_of-file.ensures in
    let unfit : fits input ≡ false =
    elim c.then-line-input.branch [
      | then-line-input-via-then-line-input w ↦ line_unended input (omega (arith, length_is, w.if-line-input.true))
      | then-line-input-via-else-line-input+then-line-gt4095 w ↦ line_long input (omega (arith, length_is, w.if-line-gt4095.true))
      | then-line-input-via-else-line-input+else-line-gt4095+then-file-gt60000 w ↦ file_long input (omega (arith, file, w.if-file-gt60000.true))
    ] in
    rw unfit (record { value = refl; numbers_after = refl })

pub returns : goal.returns
unfolding question_of numbers_stored line_of
returns c =
    let input = c.args.input.now in
    let file = ap (λ (l : List ℕ). length l) c.file_of-file.ensures in
    let told = c.parse_line.ensures in
    let fit = input_fits input (omega (arith, line (goal.at.returns c).After-until-line, line_within input)) (omega (arith, line (goal.at.returns c).After-until-line)) (omega (arith, file)) in
    rw (fit, ← c.until-line.ensures.result_value) told
