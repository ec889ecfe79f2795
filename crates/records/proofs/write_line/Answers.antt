-- `records::write_line` meets its contract. Assumes nothing.
use Prim.Native.Nat.{ℕ, ◌+◌, ◌-◌, ◌*◌, ◌<◌, ◌≤◌}
use mathlib.Core.Path.{◌≡◌, refl, sym, ap, ◌∙◌}
use mathlib.Core.List.{List}
use Rattle.std.proofs.Common.{rules}
use native.Mathlib.Omega.{arith}
use native.Mathlib.Nat.{sub-zero, add-zero}
use lib.ListN.{length, get_or, length-set}
use Rattle.std.specs.Prelude.{Ok, Some}
use Rattle.chunk_grid.specs.Grid.{Grid}
use Rattle.element_form.specs.Form.{stride as stride_of}
use Rattle.index.specs.declared.Entry.{Entry}
use Rattle.index.specs.Index.{Rec}
use Rattle.elements.specs.Elements.{element}
use Rattle.elements.specs.Values.{found_of, elements_of}
use Rattle.records.specs.Records.{record_length, list_bytes}
use Rattle.records.proofs.Lines.{Lined, lined}
use Rattle.records.proofs.Writing.{LeftOf, left_first, left_length, left_done, left_same, left_next, left_other, left_fits, left_chunk}
use Rattle.records.proofs.write_line.Goals.{After-read_inside_element, At-loop-i, Joined-read_inside_element, in-Ok-Some, in-Ok+in-None-1, in-Err-1}
use Rattle.records.proofs.write_line.Goals as goal

pub loop-i-init : goal.loop-i-init
loop-i-init c =
    let a = c.args in
    let f : a.pos + 0 * stride_of a.sized.now.reader.form ≡ a.pos = omega arith in
    (refl, λ grid m s l h. rw (f, sub-zero, add-zero) (left_first h.is))

abbrev line_step : At-loop-i → ℕ
line_step c = get_or c.args.sized.now.reader.numbering.now.grid.now.chunk c.args.line.dim 0

abbrev LinedAt : At-loop-i → Grid → ℕ → ℕ → List Rec → Type 0
LinedAt c grid m s l =
    Lined c.args.file.now c.args.sized.now.reader c.args.corner.now c.args.line.dim (c.args.line.first * line_step c) (line_step c) c.args.pos c.args.n grid m s l

given : (c : At-loop-i)
    → (grid : Grid) × (m : ℕ) × (s : ℕ) × (l : List Rec) × LinedAt c grid m s l
    × (c.args.at + length (list_bytes l) ≤ length c.args.out.now)
given c = let p = c.requires in let q = p.0 in (q.0, q.1, q.2, q.3, lined p.1 q.4 q.5 q.7, q.6)

-- the element that is read
is_element : (c : After-read_inside_element) {grid : Grid} {m : ℕ} (s : ℕ) (l : List Rec) → LinedAt (goal.at.After-read_inside_element c).At-loop-i grid m s l
    → c.read_inside_element.result
    ≡ found_of (element (elements_of c.args.file.now c.args.sized.now.reader grid m) (c.args.pos + c.loop-i.i * stride_of c.args.sized.now.reader.form) (s + c.loop-i.i))
is_element c s l h = let e = c.read_inside_element.ensures _ _ _ h.reads.chunked (h.inside _ c.loop-i-test.true) in rw c.stride-stride.ensures at e

-- the record of a chunk has room
fits : (c : After-read_inside_element) (x : Entry) → c.read_inside_element.result ≡ Ok (Some x)
    → c.loop-i.to + record_length (length c.args.corner.now) ≤ length c.loop-i.out
fits c x e =
    let d = given (goal.at.After-read_inside_element c).At-loop-i in
    let t = c.loop-i-test.true in
    let h = d.4 in
    let f = left_fits (c.loop-i.invariant.1 _ _ _ _ h) (omega (arith, t)) (omega (arith, t, h.below)) (sym (is_element c _ _ h) ∙ e) (h.corners _ t) (length-set _ _ _) in
    omega (arith, f, d.5, c.loop-i.invariant.0)

pub put_record-requires : goal.put_record-requires
put_record-requires c = fits (goal.at.put_record-requires c).After-read_inside_element _ (c.in-Ok-Some.is ∙ ap Ok c.in-Ok-Some.field-0-is)

pub overflow_mul-to : goal.overflow_mul-to
unfolding record_length
overflow_mul-to c = omega (arith, fits (goal.at.overflow_mul-to c).After-read_inside_element _ (c.in-Ok-Some.is ∙ ap Ok c.in-Ok-Some.field-0-is))

pub overflow_add-to : goal.overflow_add-to
unfolding record_length
overflow_add-to c = omega (arith, fits (goal.at.overflow_add-to c).After-read_inside_element _ (c.in-Ok-Some.is ∙ ap Ok c.in-Ok-Some.field-0-is))

pub overflow_add-to-in-Ok-Some : goal.overflow_add-to-in-Ok-Some
unfolding record_length
overflow_add-to-in-Ok-Some c = omega (arith, fits (goal.at.overflow_add-to-in-Ok-Some c).After-read_inside_element _ (c.in-Ok-Some.is ∙ ap Ok c.in-Ok-Some.field-0-is))

-- behind the element that was read
written : (c : Joined-read_inside_element) (grid : Grid) (m s : ℕ) (l : List Rec) → LinedAt (goal.at.Joined-read_inside_element c).At-loop-i grid m s l
    → LeftOf (elements_of c.args.file.now c.args.sized.now.reader grid m) c.args.out.now c.args.at l
    (c.args.pos + (c.loop-i.i + 1) * stride_of c.args.sized.now.reader.form) (c.args.n - (c.loop-i.i + 1)) (s + (c.loop-i.i + 1)) c.match-read_inside_element.out c.match-read_inside_element.to
unfolding record_length
written c grid m s l h =
    let t = c.loop-i-test.true in
    let k = c.loop-i.invariant.1 grid m s l h in
    let b : s + c.loop-i.i < c.args.sized.now.reader.count = omega (arith, t, h.below) in
    let z : 0 < c.args.n - c.loop-i.i = omega (arith, t) in
    let e = is_element (goal.at.Joined-read_inside_element c).After-read_inside_element s l h in
    left_next c.args.pos c.args.n s c.loop-i.i
    (elim c.match-read_inside_element.branch [
      | in-Ok-Some w ↦ left_same (left_chunk k z b (sym e ∙ w.in-Ok-Some.is ∙ ap Ok w.in-Ok-Some.field-0-is) (h.corners _ t) (length-set _ _ _)) (w.out-is ∙ w.put_record.ensures) w.to-is
      | in-Ok+in-None-1 w ↦ left_same (left_other k z b (λ x q. let d = e ∙ q in search rules)) w.out-is w.to-is
      | in-Err-1 w ↦ left_same (left_other k z b (λ x q. let d = e ∙ q in search rules)) w.out-is w.to-is
    ])

pub loop-i-preserved : goal.loop-i-preserved
loop-i-preserved c =
    let at = (goal.at.loop-i-preserved c).Joined-read_inside_element in
    let w = written at in
    (left_length _ _ _ _ _ _ _ _ _ (w _ _ _ _ (given (goal.at.loop-i-preserved c).At-loop-i).4), w)

pub returns : goal.returns
returns c = λ grid m s l q e b. left_done (c.loop-i.invariant.1 grid m s l (lined c.requires.1 q e b)) (omega (arith, c.loop-i-test.false))
