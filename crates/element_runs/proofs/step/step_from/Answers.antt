-- `element_runs::step::step_from` meets its contract. Assumes nothing.
use Prim.Native.Nat.{ℕ}
use mathlib.Core.Path.{◌≡◌, sym, ap, ◌∙◌}
use mathlib.Core.Logic.{∥∥₁_prop}
use Rattle.std.proofs.Common.{rules}
use native.Mathlib.Omega.{arith}
use Rattle.std.specs.Prelude.{Err, Ok, true, false}
use Rattle.fields.specs.Fields.{undefined_at}
use Rattle.element_form.proofs.Forms.{sized_width, sized-stride}
use Rattle.chunk_grid.specs.Grid.{Grid}
use Rattle.chunk_grid.specs.Values.{in_extent, offsets_of}
use Rattle.elements.specs.Values.{elements_of, Reads}
use Rattle.elements.proofs.Readers.{reads_any, inside_corner}
use Rattle.element_runs.proofs.DefinedRuns.{first_defined}
use Rattle.element_runs.proofs.Steps.{gap_none, outside_none, unnumbered}
use Rattle.element_runs.proofs.step.step_from.Goals.{Else-gap-gt0, Then-branch}
use Rattle.element_runs.proofs.step.step_from.Goals as goal

pub undefined_run-gap-requires : goal.undefined_run-gap-requires
undefined_run-gap-requires c =
    let t = c.args.sized.now.sized in
    rw c.stride.ensures (sized_width _ t, sized-stride _ t, c.requires.1)

pub returns-then-gap-gt0 : goal.returns-then-gap-gt0
returns-then-gap-gt0 c =
    let a = c.args in (
      c.if-gap-gt0.true,
      c.undefined_run-gap.ensures.1,
      λ grid k x.
          let e = elements_of a.file.now a.sized.now.reader grid k in
          rw (c.undefined_run-gap.ensures.0, c.stride.ensures) (gap_none e a.sized.now.sized a.pos a.n a.slot c.requires.2),
    )

-- where there is no gap, the first element is defined
defined : (c : Else-gap-gt0) → undefined_at c.args.file.now c.args.pos c.args.sized.now.reader.form.offset_size ≡ false
defined c = first_defined _ _ _ _ _ _ c.undefined_run-gap.ensures.0 (omega (arith, c.if-gap-gt0.false)) c.requires.0

pub returns-in_err-reach : goal.returns-in_err-reach
returns-in_err-reach c =
    let a = c.args in
    let r : c.from_residual.result ≡ Err c.in_err-reach.field-0.0 = search rules in
    let at = goal.at.returns-in_err-reach c in
    rw r (λ grid k x.
    unnumbered (elements_of a.file.now a.sized.now.reader grid k) a.sized.now.sized a.pos a.slot (defined at.Else-gap-gt0) (omega (arith, c.requires)) a.n c.requires.0 _ (sym (c.reach.ensures grid x.numbered x.extended).0 ∙ c.in_err-reach.was))

-- the first element's slot lies in the present extents
inside : (c : Then-branch) (grid : Grid) (k : ℕ) → Reads c.args.sized.now.reader grid k → offsets_of (in_extent grid c.args.slot) ≡ Ok true
inside c grid k x = sym (c.reach.ensures grid x.numbered x.extended).0 ∙ c.in_ok-reach.was ∙ ap Ok c.if-branch.true

pub line_from-requires : goal.line_from-requires
line_from-requires c =
    reads_any c.args.sized.now.reader ∥∥₁_prop (λ grid k x. ∣ (grid, _, _, x.numbered, x.extended, inside (goal.at.line_from-requires c).Then-branch grid k x) ∣₁)

pub returns-then-branch : goal.returns-then-branch
returns-then-branch c = λ grid k x.
    let i = inside (goal.at.returns-then-branch c).Then-branch grid k x in
    record {
      reads = x;
      begins = inside_corner c.args.sized.now.reader grid x.numbered c.args.slot i c.args.offsets.now _ (search rules) (c.reach.ensures grid x.numbered x.extended).1;
      lies = c.line_from.ensures grid _ _ x.numbered x.extended i;
    }

pub returns-else-branch : goal.returns-else-branch
returns-else-branch c =
    let a = c.args in (
      omega arith,
      c.requires.0,
      λ grid k x.
          let e = elements_of a.file.now a.sized.now.reader grid k in
          outside_none e a.sized.now.sized a.pos a.slot (defined (goal.at.returns-else-branch c).Else-gap-gt0) (omega (arith, c.requires)) (sym (c.reach.ensures grid x.numbered x.extended).0 ∙ c.in_ok-reach.was ∙ ap Ok c.if-branch.false),
    )
