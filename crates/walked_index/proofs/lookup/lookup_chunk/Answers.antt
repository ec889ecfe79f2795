-- `walked_index::lookup::lookup_chunk` meets its contract. Assumes nothing.
use Prim.Native.Nat.{◌≤◌}
use mathlib.Core.Path.{◌≡◌, refl, sym, ap, ◌∙◌}
use native.Mathlib.Omega.{arith}
use Rattle.std.proofs.Common.{rules}
use Rattle.std.specs.Prelude.{Err, Ok, Option}
use Rattle.index.specs.declared.Entry.{Entry}
use Rattle.refusal.specs.Refusals.{largest64, Outcome}
use Rattle.refusal.specs.Outcome.{◌yields◌}
use Rattle.refusal.specs.declared.Refusal.{Refusal}
use Rattle.chunk_grid.specs.Grid.{grid_test, corner_test, slot_of}
use Rattle.chunk_grid.specs.Values.{grid_of}
use Rattle.elements.specs.Elements.{Elements}
use Rattle.elements.specs.Values.{found_of}
use Rattle.elements.proofs.Readers.{reads_made}
use Rattle.located.specs.Located.{index_of, slot_path}
use Rattle.walked_index.specs.Answered.{Answered, Agreed}
use Rattle.walked_index.specs.Walked.{elements_read}
use Rattle.walked_index.proofs.Walked.{Laws}
use Rattle.walked_index.proofs.Lists.{elements_read_lem}
use Rattle.walked_index.proofs.Lookups.{tests, grid_stops, corner_stops, entry_decides, tests_passed, lookup_refused, lookup_passed, found_by}
use Rattle.walked_index.proofs.lookup.lookup_chunk.Given as given
use Rattle.walked_index.proofs.lookup.lookup_chunk.Goals.{After-new-reader, After-slot_count-count, After-numbering-numbering, In_ok-corner_test, In_ok-test, In_ok-test_entry, Start}
use Rattle.walked_index.proofs.lookup.lookup_chunk.Goals as goal

-- the elements that are looked up
abbrev elements : (g : given.Over) → Start g → Elements
elements g c =
    let i = g.I.WalkedIndex in
    let a = c.args in
    elements_read a.file.now (i.form a.index) (grid_of a.grid) a.element_bytes (i.count a.index)

-- what is found there, and the theorems of it
found : (g : given.Over) (c : After-slot_count-count g) (x : Outcome (Option Entry))
    → let i = g.I.WalkedIndex in
    let a = c.args in
    let e = elements g (goal.at.After-slot_count-count g c).Start in
    let answer = tests (grid_of a.grid) a.corner.now (i.entry a.index a.file.now) yields slot_path (i.located a.index a.file.now e) (slot_of (grid_of a.grid) a.corner.now) in
    x ≡ found_of answer
    → (x ≡ found_of answer)
    × Answered answer (index_of (i.located a.index a.file.now e)) a.corner.now x
    × Agreed (grid_test (grid_of a.grid) yields i.walk a.index a.file.now e) (grid_of a.grid) a.corner.now x
found g c x =
    let i = g.I.WalkedIndex in
    let m = g.met.I.WalkedIndex in
    let a = c.args in
    let laws : Laws (i.walk a.index a.file.now) (i.located a.index a.file.now) (i.form a.index) (i.count a.index) =
    record { elements = m.elements_are a.index a.file.now; right = m.walk_right a.index a.file.now } in
    -- the count is a 64-bit number
    let fits : i.count a.index ≤ largest64 = omega (arith, c.slot_count-count.ensures) in
    found_by laws (i.entry a.index a.file.now) (m.walk_enters a.index a.file.now) (elements g (goal.at.After-slot_count-count g c).Start) a.corner.now x refl refl fits

-- the test of the grid
refused : (g : given.Over) (c : After-slot_count-count g) {q : Refusal} {x : Outcome (Option Entry)}
    → let i = g.I.WalkedIndex in
    let a = c.args in
    let e = elements g (goal.at.After-slot_count-count g c).Start in
    let t = tests (grid_of a.grid) a.corner.now (i.entry a.index a.file.now) in
    t ≡ Err q → x ≡ Err q → x ≡ found_of (t yields slot_path (i.located a.index a.file.now e) (slot_of (grid_of a.grid) a.corner.now))
refused g c s r = r ∙ lookup_refused _ _ _ _ _ s

pub returns-in_err-test : goal.returns-in_err-test
returns-in_err-test g c =
    let r : c.from_residual.result ≡ Err c.in_err-test.field-0.0 = search rules in
    let at = goal.at.returns-in_err-test g c in
    found g at.After-slot_count-count _ (refused g at.After-slot_count-count (grid_stops _ _ _ (sym c.test.ensures ∙ c.in_err-test.was)) r)

passed : (g : given.Over) (c : In_ok-test g) → grid_test (grid_of c.args.grid) ≡ Ok tt
passed g c = sym c.test.ensures ∙ c.in_ok-test.was

pub corner_test-requires : goal.corner_test-requires
corner_test-requires g c = passed g (goal.at.corner_test-requires g c).In_ok-test

pub returns-in_err-corner_test : goal.returns-in_err-corner_test
returns-in_err-corner_test g c =
    let r : c.from_residual-in_err-corner_test.result ≡ Err c.in_err-corner_test.field-0.0 = search rules in
    let at = goal.at.returns-in_err-corner_test g c in
    let k = sym c.corner_test.ensures ∙ c.in_err-corner_test.was in
    found g at.After-slot_count-count _ (refused g at.After-slot_count-count (corner_stops _ _ _ (passed g at.In_ok-test) k) r)

-- the corner is a chunk's
cornered : (g : given.Over) (c : In_ok-corner_test g) → corner_test (grid_of c.args.grid) c.args.corner.now ≡ Ok tt
cornered g c = sym c.corner_test.ensures ∙ c.in_ok-corner_test.was

pub returns-in_err-test_entry : goal.returns-in_err-test_entry
returns-in_err-test_entry g c =
    let r : c.from_residual-in_err-test_entry.result ≡ Err c.in_err-test_entry.field-0.0 = search rules in
    let at = goal.at.returns-in_err-test_entry g c in
    let s = entry_decides _ _ _ (passed g at.In_ok-test) (cornered g at.In_ok-corner_test) (sym c.test_entry.ensures ∙ c.in_err-test_entry.was) in
    found g at.After-slot_count-count _ (refused g at.After-slot_count-count s r)

-- all tests have passed
tested : (g : given.Over) (c : In_ok-test_entry g)
    → let a = c.args in
    tests (grid_of a.grid) a.corner.now (g.I.WalkedIndex.entry a.index a.file.now) ≡ Ok tt
tested g c =
    let at = goal.at.In_ok-test_entry g c in
    entry_decides _ _ _ (passed g at.In_ok-test) (cornered g at.In_ok-corner_test) (sym c.test_entry.ensures ∙ c.in_ok-test_entry.was)

-- the grid is numbered
pub numbering-numbering-requires : goal.numbering-numbering-requires
numbering-numbering-requires g c = passed g (goal.at.numbering-numbering-requires g c).In_ok-test

pub slot_of-slot-requires : goal.slot_of-slot-requires
slot_of-slot-requires g c =
    let at = goal.at.slot_of-slot-requires g c in
    (tests_passed _ _ _ (tested g at.In_ok-test_entry)).1 ∙ sym c.numbering-numbering.ensures.numbers.1.ranked

-- the reader reads the index's elements
formed : (g : given.Over) (c : After-new-reader g) → c.new-reader.result.form ≡ g.I.WalkedIndex.form c.args.index
formed g c = c.new-reader.ensures.0 ∙ c.element_form-form.ensures

counted : (g : given.Over) (c : After-new-reader g) → c.new-reader.result.count ≡ g.I.WalkedIndex.count c.args.index
counted g c = c.new-reader.ensures.1 ∙ c.slot_count-count.ensures

pub slot_path-requires : goal.slot_path-requires
slot_path-requires g c =
    let at = goal.at.slot_path-requires g c in
    ((tests_passed _ _ _ (tested g at.In_ok-test_entry)).2, sym (formed g at.After-new-reader), sym (counted g at.After-new-reader))

pub returns : goal.returns
returns g c =
    let at = goal.at.returns g c in
    let a = c.args in
    let i = g.I.WalkedIndex in
    let n = at.After-new-reader in
    let x = c.new-reader.ensures in
    let k = c.numbering-numbering.ensures.numbers in
    let e = elements_read_lem a.file.now _ _ c.new-reader.result (grid_of a.grid) a.element_bytes (formed g n) (counted g n) in
    found g at.After-slot_count-count _
    (c.slot_path.ensures (grid_of a.grid) a.element_bytes (reads_made c.new-reader.result x.2 x.3 k.1 k.3)
    ∙ ap (λ (y : Elements). found_of (slot_path (i.located a.index a.file.now y) c.slot_of-slot.result)) e
    ∙ lookup_passed _ _ _ _ _ (c.slot_of-slot.ensures _ k.1 k.2) (tested g at.In_ok-test_entry))
