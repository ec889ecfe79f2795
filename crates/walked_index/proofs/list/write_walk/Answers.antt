-- `walked_index::list::write_walk` meets its contract. Assumes nothing.
use Prim.Native.Nat.{◌-◌, min}
use mathlib.Core.Path.{◌≡◌, refl, subst}
use mathlib.Core.List.{List}
use native.Mathlib.Omega.{arith}
use lib.Seq.{length-sets}
use Rattle.index.specs.Index.{Rec}
use Rattle.located.specs.declared.Run.{Run}
use Rattle.located.specs.Values.{RunOf}
use Rattle.located.proofs.Written.{written_first, written_done, written_gap, written_fits, run_accepted, written_run}
use Rattle.walked_index.specs.Walked.{Walked}
use Rattle.walked_index.proofs.Walked.{Laws, walked_in, walked_right, walked_run, walked_to}
use Rattle.walked_index.proofs.list.write_walk.Given as given
use Rattle.walked_index.proofs.list.write_walk.Goals.{After-run_of, At-loop-slot, Start}
use Rattle.walked_index.proofs.list.write_walk.Goals as goal

-- the index's own laws
laws : (g : given.Over) (c : Start g)
    → let i = g.I.WalkedIndex in
    let a = c.args in
    Laws (i.walk a.index a.file.now) (i.located a.index a.file.now) (i.form a.index) (i.count a.index)
laws g c =
    let m = g.met.I.WalkedIndex in
    record { elements = m.elements_are c.args.index c.args.file.now; right = m.walk_right c.args.index c.args.file.now }

pub loop-slot-init : goal.loop-slot-init
loop-slot-init g c = (omega arith, refl, λ l w. written_first _ (walked_right _ w (laws g (goal.at.loop-slot-init g c).Start)))

-- the index was walked before
abbrev Before : (g : given.Over) → At-loop-slot g → List Rec → Type 0
Before g c =
    let i = g.I.WalkedIndex in
    let a = c.args in
    Walked (i.walk a.index a.file.now) (i.form a.index) (i.count a.index) a.file.now a.reader.now

pub run_of-requires : goal.run_of-requires
run_of-requires g c = walked_to c.requires.1 _ c.loop-slot-test.true

-- the run that was found is the slot's
found : (g : given.Over) (c : After-run_of g) {q : Run} → c.run_of.result ≡ q → (l : List Rec) (w : Before g (goal.at.After-run_of g c).At-loop-slot l)
    → RunOf (walked_in (g.I.WalkedIndex.located c.args.index c.args.file.now) w) c.loop-slot.slot q
found g c {q} e l w =
    walked_run _ w (laws g (goal.at.After-run_of g c).Start) c.loop-slot.slot q
    (λ x file form. subst (RunOf (g.I.WalkedIndex.located c.args.index c.args.file.now x) c.loop-slot.slot) e (c.run_of.ensures x file form))

pub loop-slot-smaller-in-Gap : goal.loop-slot-smaller-in-Gap
loop-slot-smaller-in-Gap g c =
    let k = found g (goal.at.loop-slot-smaller-in-Gap g c).After-run_of c.in-Gap.is _ c.requires.1 in
    omega (arith, c.below_count-slot.ensures, c.loop-slot-test.true, k.0)

pub loop-slot-preserved-in-Gap : goal.loop-slot-preserved-in-Gap
loop-slot-preserved-in-Gap g c =
    let i = c.loop-slot.invariant in (
      omega (arith, c.below_count-slot.ensures),
      i.1,
      λ l w. written_gap (i.2 l w) _ _ c.below_count-slot.ensures (found g (goal.at.loop-slot-preserved-in-Gap g c).After-run_of c.in-Gap.is l w),
    )

pub write_elements-at-requires : goal.write_elements-at-requires
write_elements-at-requires g c =
    let p = c.requires in
    let i = c.loop-slot.invariant in
    let at = goal.at.write_elements-at-requires g c in
    let k = found g at.After-run_of c.in-Elements.is _ p.1 in
    let f = written_fits (i.2 _ p.1) (min c.in-Elements.slots (c.args.reader.now.count - c.loop-slot.slot)) (omega arith) in
    ((p.1.grid, p.1.element_bytes, _, p.1.reads, run_accepted (walked_right _ p.1 (laws g at.Start)) _ _ _ _ k refl, omega (arith, f, p.2, i.1)), k.1)

pub loop-slot-smaller : goal.loop-slot-smaller
loop-slot-smaller g c =
    let k = found g (goal.at.loop-slot-smaller g c).After-run_of c.in-Elements.is _ c.requires.1 in
    omega (arith, c.below_count-slot-in-Elements.ensures, c.loop-slot-test.true, k.0)

pub loop-slot-preserved : goal.loop-slot-preserved
loop-slot-preserved g c =
    let p = c.requires in
    let i = c.loop-slot.invariant in
    let e = c.in-Elements.is in
    let at = goal.at.loop-slot-preserved g c in
    let q = c.write_elements-at.ensures _ _ _ p.1.reads (run_accepted (walked_right _ p.1 (laws g at.Start)) _ _ _ _ (found g at.After-run_of e _ p.1) refl) in (
      omega (arith, c.below_count-slot-in-Elements.ensures),
      rw q.0 (simp length-sets i.1),
      λ l z. written_run (i.2 l z) (walked_right _ z (laws g at.Start)) _ _ _ c.below_count-slot-in-Elements.ensures (found g at.After-run_of e l z) _ _ (λ k h. c.write_elements-at.ensures _ _ k z.reads h),
    )

pub returns : goal.returns
returns g c = λ l w. written_done (c.loop-slot.invariant.2 l w) (omega arith)

pub overflow_add-slot : goal.overflow_add-slot
overflow_add-slot g c = omega (arith, c.below_count-slot.ensures)

pub overflow_add-slot-in-Elements : goal.overflow_add-slot-in-Elements
overflow_add-slot-in-Elements g c = omega (arith, c.below_count-slot-in-Elements.ensures)

pub shape_of-list : goal.shape_of-list
shape_of-list g c = c.loop-slot.invariant.1
