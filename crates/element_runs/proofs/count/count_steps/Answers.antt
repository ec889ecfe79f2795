-- `element_runs::count::count_steps` meets its contract. Assumes nothing.
use Prim.Native.Nat.{ℕ, ◌+◌, ◌-◌, ◌*◌, ◌<◌, ◌≤◌}
use mathlib.Core.Path.{sym, ◌∙◌}
use Rattle.std.proofs.Common.{rules}
use native.Mathlib.Bridge.{le_prop}
use native.Mathlib.Omega.{arith}
use lib.ListN.{length}
use Rattle.std.specs.Prelude.{Ok}
use Rattle.element_form.specs.Form.{stride}
use Rattle.chunk_grid.specs.Grid.{Grid}
use Rattle.elements.specs.Values.{elements_of, Reads}
use Rattle.elements.proofs.Readers.{reads_any}
use Rattle.elements.proofs.Turns.{fewer_lie, lie_behind}
use Rattle.element_runs.specs.Steps.{StepOf}
use Rattle.element_runs.proofs.Counting.{Counting, counting_first, counting_done, counting_stop, counting_refused, counting_pass, counting_gap}
use Rattle.element_runs.proofs.count.count_steps.Goals.{At-loop-left, In_ok-slots, Joined-branch-2, in-Gap, in-Line+in_ok-count-in-Line}
use Rattle.element_runs.proofs.count.count_steps.Goals as goal

pub loop-left-init : goal.loop-left-init
loop-left-init c = λ grid m x. counting_first _ _ _ _ c.requires.0

-- what is left lies in the file, and below the count
left : (c : At-loop-left)
    → (c.loop-left.at + c.loop-left.left * stride c.args.sized.now.reader.form ≤ length c.args.file.now)
    × (c.loop-left.here + c.loop-left.left ≤ c.args.slot + c.args.n)
left c =
    let r = c.args.sized.now.reader in
    let k = c.loop-left.invariant in
    (reads_any r le_prop (λ grid m x. (k grid m x).lie), reads_any r le_prop (λ grid m x. omega (arith, (k grid m x).last)))

pub step_from-requires : goal.step_from-requires
step_from-requires c =
    let l = left (goal.at.step_from-requires c).At-loop-left in
    (c.loop-left-test.true, l.0, omega (arith, l.1, c.requires.1))

pub returns-in_err-slots : goal.returns-in_err-slots
returns-in_err-slots c = λ grid m x.
    let s = c.step_from.ensures in
    let h = counting_stop (c.loop-left.invariant grid m x) _ ((rw c.in_err-slots.was at s) grid m x) in
    search rules

-- the step
stepped : (c : In_ok-slots)
    → StepOf c.args.file.now c.args.sized.now.reader c.step_from.new.offsets c.loop-left.at c.loop-left.left c.loop-left.here (Ok c.in_ok-slots.field-0)
stepped c = let s = c.step_from.ensures in rw c.in_ok-slots.was at s

pub returns-in_err-count-in-Line : goal.returns-in_err-count-in-Line
returns-in_err-count-in-Line c = λ grid m x.
    let s = stepped (goal.at.returns-in_err-count-in-Line c).In_ok-slots in
    let q = (rw c.in-Line.is at s) grid m x in
    let k = c.loop-left.invariant grid m x in
    let e = c.count_line.ensures grid m c.loop-left.here x (omega (arith, c.min-slots.ensures, k.last, c.requires.1)) (λ j l. q.lies.inside j (omega (arith, c.min-slots.ensures))) in
    let h = counting_refused k _ (omega (arith, c.min-slots.ensures)) _ (sym c.in_err-count-in-Line.was ∙ e) in
    search rules

-- what is passed is some of what is left
passes : (c : Joined-branch-2) → (0 < c.match-branch-2.passed) × (c.match-branch-2.passed ≤ c.loop-left.left)
passes c =
    let s = stepped (goal.at.Joined-branch-2 c).In_ok-slots in
    elim c.match-branch-2.branch [
      | in-Gap w ↦ let g = rw w.in-Gap.is at s in rw w.passed-is (g.0, g.1)
      | in-Line+in_ok-count-in-Line w ↦
          let q = rw w.in-Line.is at s in
          let m = w.min-slots.ensures in
          rw w.passed-is (reads_any c.args.sized.now.reader le_prop (λ grid k x. omega (arith, m, (q grid k x).lies.some, c.loop-left-test.true)), omega (arith, m))
    ]

counted : (c : Joined-branch-2) (grid : Grid) (m : ℕ) → Reads c.args.sized.now.reader grid m
    → Counting (elements_of c.args.file.now c.args.sized.now.reader grid m) c.args.pos c.args.n c.args.slot (c.loop-left.at + c.match-branch-2.passed * stride c.args.sized.now.reader.form)
    (c.loop-left.left - c.match-branch-2.passed) (c.loop-left.here + c.match-branch-2.passed) c.match-branch-2.count
counted c grid m x =
    let s = stepped (goal.at.Joined-branch-2 c).In_ok-slots in
    let k = c.loop-left.invariant grid m x in
    elim c.match-branch-2.branch [
      | in-Gap w ↦ let g = rw w.in-Gap.is at s in rw (w.passed-is, w.count-is) (counting_gap k _ g.1 (g.2 grid m x))
      | in-Line+in_ok-count-in-Line w ↦
          let q = (rw w.in-Line.is at s) grid m x in
          let l = w.min-slots.ensures in
          let e = w.count_line.ensures grid m c.loop-left.here x (omega (arith, l, k.last, c.requires.1)) (λ j h. q.lies.inside j (omega (arith, l))) in
          rw (w.passed-is, w.count-is) (counting_pass k _ (omega (arith, l)) _ (sym w.in_ok-count-in-Line.was ∙ e))
    ]

-- .. and lies in the file
lies : (c : Joined-branch-2) → c.loop-left.at + c.match-branch-2.passed * stride c.args.sized.now.reader.form ≤ length c.args.file.now
lies c = omega (arith, lie_behind _ _ _ _ _ (passes c).1 (left (goal.at.Joined-branch-2 c).At-loop-left).0)

pub count_line-requires : goal.count_line-requires
count_line-requires c =
    fewer_lie _ _ _ _ _ (omega (arith, c.min-slots.ensures)) (left (goal.at.count_line-requires c).At-loop-left).0

pub overflow_add-count : goal.overflow_add-count
overflow_add-count c =
    let s = stepped (goal.at.overflow_add-count c).In_ok-slots in
    let l = c.min-slots.ensures in
    let few : c.loop-left.count + c.in_ok-count-in-Line.field-0 ≤ c.args.n = reads_any c.args.sized.now.reader le_prop (λ grid m x.
    let q = (rw c.in-Line.is at s) grid m x in
    let k = c.loop-left.invariant grid m x in
    let e = c.count_line.ensures grid m c.loop-left.here x (omega (arith, l, k.last, c.requires.1)) (λ j h. q.lies.inside j (omega (arith, l))) in
    omega (arith, (counting_pass k _ (omega (arith, l)) _ (sym c.in_ok-count-in-Line.was ∙ e)).few)) in
    omega arith

pub overflow_mul-at : goal.overflow_mul-at
overflow_mul-at c = let l = lies (goal.at.overflow_mul-at c).Joined-branch-2 in rw c.stride-stride.ensures (omega arith)

pub overflow_add-at : goal.overflow_add-at
overflow_add-at c = let l = lies (goal.at.overflow_add-at c).Joined-branch-2 in rw c.stride-stride.ensures (omega arith)

pub overflow_add-here : goal.overflow_add-here
overflow_add-here c =
    let at = goal.at.overflow_add-here c in
    omega (arith, passes at.Joined-branch-2, left at.At-loop-left, c.requires.2)

pub overflow_sub-left : goal.overflow_sub-left
overflow_sub-left c = (passes (goal.at.overflow_sub-left c).Joined-branch-2).1

pub loop-left-smaller : goal.loop-left-smaller
loop-left-smaller c = omega (arith, passes (goal.at.loop-left-smaller c).Joined-branch-2)

pub loop-left-preserved : goal.loop-left-preserved
loop-left-preserved c = rw c.stride-stride.ensures (counted (goal.at.loop-left-preserved c).Joined-branch-2)

pub returns : goal.returns
returns c = λ grid m x. counting_done (c.loop-left.invariant grid m x) (omega (arith, c.loop-left-test.false))
