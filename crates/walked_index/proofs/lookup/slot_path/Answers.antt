-- `walked_index::lookup::slot_path` meets its contract. Assumes nothing.
use Prim.Native.Nat.{ℕ}
use mathlib.Core.Path.{◌≡◌, sym, ap, subst, ◌∙◌}
use native.Mathlib.Omega.{arith}
use Rattle.std.proofs.Common.{rules}
use Rattle.std.specs.Prelude.{Err, Ok, Option}
use Rattle.chunk_grid.specs.Grid.{Grid}
use Rattle.elements.specs.Elements.{Elements}
use Rattle.elements.specs.Values.{elements_of, found_of}
use Rattle.located.specs.Located.{slot_path}
use Rattle.walked_index.specs.PathEnds.{end_answer, EndInFile}
use Rattle.walked_index.proofs.Lookups.{no_slot, past_count, below_count}
use Rattle.walked_index.proofs.lookup.slot_path.Given as given
use Rattle.walked_index.proofs.lookup.slot_path.Goals.{After-path_of, In_ok-path_of, Start}
use Rattle.refusal.specs.Refusals.{Outcome}
use Rattle.walked_index.proofs.lookup.slot_path.Goals as goal

pub returns-in_default : goal.returns-in_default
returns-in_default g c = λ grid m x. no_slot _ _ c.in_default.is

-- what its elements are counted by
own_count : (g : given.Over) (c : Start g) (grid : Grid) (m : ℕ)
    → let a = c.args in
    (g.I.WalkedIndex.located a.index a.file.now (elements_of a.file.now a.reader.now grid m)).elements.count ≡ a.reader.now.count
own_count g c grid m = ap (λ (x : Elements). x.count) (g.met.I.WalkedIndex.elements_are c.args.index c.args.file.now _)

pub returns-then-reader-s : goal.returns-then-reader-s
returns-then-reader-s g c = λ grid m x.
    past_count _ _ _ c.in-Some.is (omega (arith, c.if-reader-s.true, own_count g (goal.at.returns-then-reader-s g c).Start grid m))

-- what a slot below the count is found, by where its path ends
ended : (g : given.Over) (c : After-path_of g) (grid : Grid) (m : ℕ) {x : Outcome (Option ℕ)} → c.path_of.result ≡ x
    → let a = c.args in
    found_of (end_answer (elements_of a.file.now a.reader.now grid m) c.in-Some.s x)
    ≡ found_of (slot_path (g.I.WalkedIndex.located a.index a.file.now (elements_of a.file.now a.reader.now grid m)) a.slot)
ended g c grid m e =
    let a = c.args in
    ap (λ (x : Outcome (Option ℕ)). found_of (end_answer (elements_of a.file.now a.reader.now grid m) c.in-Some.s x)) (sym e)
    ∙ ap found_of
    (sym (c.path_of.ensures.answer _ c.requires.1)
    ∙ below_count _ _ _ c.in-Some.is (omega (arith, c.if-reader-s.false, own_count g (goal.at.After-path_of g c).Start grid m)))

pub path_of-requires : goal.path_of-requires
path_of-requires g c = (c.requires.0, omega (arith, c.if-reader-s.false, c.requires.2))

-- .. and where it ends by Ok
came : (g : given.Over) (c : In_ok-path_of g) {x : Option ℕ} → c.in_ok-path_of.field-0 ≡ x → c.path_of.result ≡ Ok x
came g c e = c.in_ok-path_of.was ∙ ap Ok e

pub returns-in_err-path_of : goal.returns-in_err-path_of
unfolding end_answer found_of
returns-in_err-path_of g c = λ grid m x.
    let r : c.from_residual.result ≡ Err c.in_err-path_of.field-0.0 = search rules in
    r ∙ ended g (goal.at.returns-in_err-path_of g c).After-path_of grid m c.in_err-path_of.was

pub read_element-requires : goal.read_element-requires
read_element-requires g c =
    let at = goal.at.read_element-requires g c in
    let e = came g at.In_ok-path_of c.in-Some-2.is in
    rw (← c.requires.1) (subst (EndInFile c.args.file.now (g.I.WalkedIndex.form c.args.index)) e c.path_of.ensures.inside)

pub returns-in-None : goal.returns-in-None
unfolding end_answer found_of
returns-in-None g c = λ grid m x.
    let at = goal.at.returns-in-None g c in
    ended g at.After-path_of grid m (came g at.In_ok-path_of c.in-None.is)

pub returns-in-Some-2 : goal.returns-in-Some-2
unfolding end_answer
returns-in-Some-2 g c = λ grid m x.
    let at = goal.at.returns-in-Some-2 g c in
    c.read_element.ensures grid m x ∙ ended g at.After-path_of grid m (came g at.In_ok-path_of c.in-Some-2.is)
