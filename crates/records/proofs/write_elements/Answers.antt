-- `records::write_elements` meets its contract. Assumes nothing.
use Prim.Native.Nat.{ℕ, ◌+◌, ◌-◌, ◌*◌, ◌<◌, ◌≤◌, min}
use mathlib.Core.Path.{◌≡◌, refl, sym, ap, ◌∙◌}
use mathlib.Core.List.{List, []}
use native.Mathlib.Bridge.{le_prop}
use native.Mathlib.Omega.{arith}
use lib.ListN.{length, take, length-take}
use Rattle.std.specs.Prelude.{Ok}
use Rattle.chunk_grid.specs.Grid.{Grid}
use Rattle.element_form.specs.Form.{stride as stride_of}
use Rattle.index.specs.Index.{Rec, Listing}
use Rattle.elements.specs.Elements.{Elements}
use Rattle.elements.specs.Runs.{elements_from}
use Rattle.elements.specs.Values.{elements_of, Reads}
use Rattle.elements.proofs.Readers.{reads_rank, reads_any}
use Rattle.elements.proofs.Turns.{fewer_lie, lie_behind, left_run, left_none}
use Rattle.records.specs.Records.{list_bytes}
use Rattle.records.proofs.Writing.{LeftOf, left_first, left_length, left_done, left_same, left_sized, left_accepted, left_gap, part, part_is, part_fits, left_behind}
use Rattle.records.proofs.write_elements.Goals.{After-step_from, At-loop-left, In-Ok-Line, Joined-step_from, in-Ok-Gap, in-Ok-Line, in-Err}
use Rattle.records.proofs.write_elements.Goals as goal

pub returns-then-below-eq0 : goal.returns-then-below-eq0
unfolding list_bytes
returns-then-below-eq0 c = λ grid m l x h.
    let none = left_none (elements_of c.args.file.now c.args.reader.now grid m) c.args.pos c.args.n c.args.slot _ (Ok []) c.below_count-below.ensures c.if-below-eq0.true in
    let q : ◌≡◌ {A = Listing} (Ok []) (Ok l) = sym none ∙ h in
    let e : l ≡ [] = cc in
    rw e (refl, omega arith)

pub loop-left-init : goal.loop-left-init
loop-left-init c =
    (fewer_lie _ _ _ _ _ (omega (arith, c.below_count-below.ensures)) c.requires.1, refl, refl, λ grid m k x h. left_first h)

-- what the records are of the elements below the count
abbrev elements_at : At-loop-left → Grid → ℕ → Elements
elements_at c grid m = elements_of c.args.file.now c.args.reader.now grid m

abbrev Listed : At-loop-left → Grid → ℕ → List Rec → Type 0
Listed c grid m l = elements_from (elements_at c grid m) c.args.pos c.below_count-below.result c.args.slot (Ok []) ≡ Ok l

listed : (c : At-loop-left) (grid : Grid) (m : ℕ) (l : List Rec)
    → elements_from (elements_at c grid m) c.args.pos c.args.n c.args.slot (Ok []) ≡ Ok l → Listed c grid m l
listed c grid m l h = sym (left_run (elements_at c grid m) _ _ _ _ (Ok []) c.below_count-below.ensures) ∙ h

given : (c : At-loop-left)
    → (grid : Grid) × (m : ℕ) × (l : List Rec) × Reads c.args.reader.now grid m × Listed c grid m l
    × (c.args.at + length (list_bytes l) ≤ length c.args.out.now)
given c = let p = c.requires.0 in (p.0, p.1, p.2, p.3, listed c _ _ _ p.4, p.5)

below : (c : At-loop-left) → c.args.slot + c.below_count-below.result ≤ c.args.reader.now.count
below c = let n = c.if-below-eq0.false in omega (arith, c.below_count-below.ensures)

-- the first of them, which is listed, has passed the test of its size
pub invariant_of-sized : goal.invariant_of-sized
invariant_of-sized c =
    let at = (goal.at.invariant_of-sized c).At-loop-left in
    let d = given at in
    let n = c.if-below-eq0.false in
    record { sized = left_sized (left_first {out = c.args.out.now} {at = c.args.at} d.4) (omega arith) (omega (arith, below at)) }

pub step_from-requires : goal.step_from-requires
step_from-requires c =
    (c.loop-left-test.true, c.loop-left.invariant.0, omega (arith, c.loop-left.invariant.1, below (goal.at.step_from-requires c).At-loop-left))

pub slice_bounds-offsets-end : goal.slice_bounds-offsets-end
slice_bounds-offsets-end c = omega (arith, reads_rank c.args.reader.now, c.step_from.array_long)

pub slice_bounds-write_line-end : goal.slice_bounds-write_line-end
slice_bounds-write_line-end c =
    let r = c.args.reader.now.numbering.now.grid.now.rank in
    let e : length (take r c.step_from.new.offsets) ≡ min r (length c.step_from.new.offsets) = length-take r c.step_from.new.offsets in
    omega (arith, reads_rank c.args.reader.now, c.step_from.array_long, e)

-- the elements of a line that are written
pub write_line-to-requires : goal.write_line-to-requires
write_line-to-requires c =
    let at = (goal.at.write_line-to-requires c).At-loop-left in
    let d = given at in
    let v = c.loop-left.invariant in
    let z = v.3 _ _ _ d.3 d.4 in
    let m = c.min-slots.ensures in
    let h : c.min-slots.result ≤ c.loop-left.left = omega arith in
    let s = c.step_from.ensures in (
      (
        d.0,
        d.1,
        c.loop-left.here,
        part z _ h,
        (rw (c.in-Ok-Line.is ∙ ap Ok c.in-Ok-Line.field-0-is) at s) _ _ d.3,
        part_is z _ h,
        omega (arith, part_fits z _ h, d.5, v.2),
        omega (arith, h, v.1, below at),
      ),
      omega arith,
      fewer_lie _ _ _ _ _ h v.0,
    )

-- behind the elements that are passed
passes : (c : Joined-step_from) → (0 < c.match-step_from.passed) × (c.match-step_from.passed ≤ c.loop-left.left)
passes c =
    let s = c.step_from.ensures in
    elim c.match-step_from.branch [
      | in-Ok-Gap w ↦ let g = rw (w.in-Ok-Gap.is ∙ ap Ok w.in-Ok-Gap.field-0-is) at s in rw w.passed-is (g.0, g.1)
      | in-Ok-Line w ↦
          let q = rw (w.in-Ok-Line.is ∙ ap Ok w.in-Ok-Line.field-0-is) at s in
          let m = w.min-slots.ensures in
          rw w.passed-is (reads_any c.args.reader.now le_prop (λ grid k x. omega (arith, m, (q grid k x).lies.some, c.loop-left-test.true)), omega arith)
      | in-Err w ↦ rw w.passed-is (c.loop-left-test.true, omega arith)
    ]

written : (c : Joined-step_from) (grid : Grid) (m : ℕ) (l : List Rec) → Reads c.args.reader.now grid m → Listed (goal.at.Joined-step_from c).At-loop-left grid m l
    → LeftOf (elements_of c.args.file.now c.args.reader.now grid m) c.args.out.now c.args.at l (c.loop-left.from + c.match-step_from.passed * stride_of c.args.reader.now.form)
    (c.loop-left.left - c.match-step_from.passed) (c.loop-left.here + c.match-step_from.passed) c.match-step_from.out c.match-step_from.to
written c grid m l x h =
    let s = c.step_from.ensures in
    let z = c.loop-left.invariant.3 grid m l x h in
    elim c.match-step_from.branch [
      | in-Ok-Gap w ↦ let g = rw (w.in-Ok-Gap.is ∙ ap Ok w.in-Ok-Gap.field-0-is) at s in rw w.passed-is (left_same (left_gap z _ g.1 (g.2 grid m x)) w.out-is w.to-is)
      | in-Ok-Line w ↦
          let q = rw (w.in-Ok-Line.is ∙ ap Ok w.in-Ok-Line.field-0-is) at s in
          let i : w.min-slots.result ≤ c.loop-left.left = omega (arith, w.min-slots.ensures) in
          let p = w.write_line-to.ensures _ _ _ _ (q grid m x) (part_is z _ i) (omega (arith, i, c.loop-left.invariant.1, below (goal.at.Joined-step_from c).At-loop-left)) in
          rw w.passed-is (left_same (left_behind z _ i) (w.out-is ∙ p.0) (w.to-is ∙ p.1))
      | in-Err w ↦ absurd (left_accepted z _ ((rw w.in-Err.is at s) grid m x))
    ]

lies : (c : Joined-step_from)
    → c.loop-left.from + c.match-step_from.passed * stride_of c.args.reader.now.form + (c.loop-left.left - c.match-step_from.passed) * stride_of c.args.reader.now.form ≤ length c.args.file.now
lies c = lie_behind _ _ _ _ _ (passes c).1 c.loop-left.invariant.0

pub overflow_mul-from : goal.overflow_mul-from
overflow_mul-from c = let l = lies (goal.at.overflow_mul-from c).Joined-step_from in rw c.stride-stride.ensures (omega arith)

pub overflow_add-from : goal.overflow_add-from
overflow_add-from c = let l = lies (goal.at.overflow_add-from c).Joined-step_from in rw c.stride-stride.ensures (omega arith)

pub overflow_add-here : goal.overflow_add-here
overflow_add-here c =
    let at = goal.at.overflow_add-here c in
    omega (arith, passes at.Joined-step_from, c.loop-left.invariant.1, below at.At-loop-left)

pub overflow_sub-left : goal.overflow_sub-left
overflow_sub-left c = (passes (goal.at.overflow_sub-left c).Joined-step_from).1

pub loop-left-smaller : goal.loop-left-smaller
loop-left-smaller c = omega (arith, passes (goal.at.loop-left-smaller c).Joined-step_from)

pub loop-left-preserved : goal.loop-left-preserved
loop-left-preserved c =
    let at = (goal.at.loop-left-preserved c).Joined-step_from in
    let w = written at in
    rw c.stride-stride.ensures (
      lies at,
      omega (arith, c.loop-left.invariant.1, passes at),
      left_length _ _ _ _ _ _ _ _ _ (let d = given (goal.at.loop-left-preserved c).At-loop-left in w _ _ _ d.3 d.4),
      w,
    )

pub returns : goal.returns
returns c = λ grid m l x h. left_done (c.loop-left.invariant.3 grid m l x (listed (goal.at.returns c).At-loop-left grid m l h)) (omega (arith, c.loop-left-test.false))
