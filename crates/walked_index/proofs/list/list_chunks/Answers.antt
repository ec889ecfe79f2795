-- `walked_index::list::list_chunks` meets its contract. Assumes nothing.
use Prim.Native.Nat.{ℕ, ◌<◌, ◌≤◌}
use mathlib.Core.Path.{◌≡◌, refl, sym, ap, ◌∙◌}
use native.Mathlib.Omega.{arith}
use lib.ListN.{length, get_or}
use Rattle.std.proofs.Common.{rules}
use Rattle.std.specs.Prelude.{Err}
use Rattle.refusal.specs.Refusals.{largest64}
use Rattle.refusal.specs.Values.{counted_of}
use Rattle.chunk_grid.specs.Grid.{given as grid_given}
use Rattle.chunk_grid.specs.Values.{grid_of}
use Rattle.index.specs.Index.{Listing}
use Rattle.elements.specs.Elements.{Elements}
use Rattle.elements.specs.Values.{Reads}
use Rattle.elements.proofs.Readers.{reads_made}
use Rattle.records.specs.Records.{list_content}
use Rattle.walked_index.specs.Walked.{elements_read}
use Rattle.walked_index.proofs.Walked.{Laws}
use Rattle.walked_index.proofs.Lists.{list_refused, walk-read, list-exact, refused_count}
use Rattle.walked_index.proofs.list.list_chunks.Given as given
use Rattle.walked_index.proofs.list.list_chunks.Goals.{After-new-reader, Start}
use Rattle.walked_index.proofs.list.list_chunks.Goals as goal

-- the elements that are listed
abbrev elements : (g : given.Over) → Start g → Elements
elements g c =
    let i = g.I.WalkedIndex in
    let a = c.args in
    elements_read a.file.now (i.form a.index) (grid_of a.grid) a.element_bytes (i.count a.index)

pub returns-in_err-test : goal.returns-in_err-test
unfolding grid_of grid_given
returns-in_err-test g c =
    let r : c.from_residual.result ≡ Err c.in_err-test.field-0.0 = search rules in
    let p = list_refused (g.I.WalkedIndex.walk c.args.index c.args.file.now) (elements g (goal.at.returns-in_err-test g c).Start) _ _ _ (sym c.test.ensures ∙ c.in_err-test.was) in
    (r ∙ p.0, p.1, λ n h. absurd (refused_count _ n (sym r ∙ h)))

pub numbering-numbering-requires : goal.numbering-numbering-requires
numbering-numbering-requires g c = sym c.test.ensures ∙ c.in_ok-test.was

-- the reader reads the index's elements
formed : (g : given.Over) (c : After-new-reader g) → c.new-reader.result.form ≡ g.I.WalkedIndex.form c.args.index
formed g c = c.new-reader.ensures.0 ∙ c.element_form-form.ensures

counted : (g : given.Over) (c : After-new-reader g) → c.new-reader.result.count ≡ g.I.WalkedIndex.count c.args.index
counted g c = c.new-reader.ensures.1 ∙ c.slot_count.ensures

-- it reads the call's grid
reads : (g : given.Over) (c : After-new-reader g) → Reads c.new-reader.result (grid_of c.args.grid) c.args.element_bytes
reads g c =
    let n = c.numbering-numbering.ensures.numbers in
    let x = c.new-reader.ensures in
    reads_made c.new-reader.result x.2 x.3 n.1 n.3

pub list_walk-requires : goal.list_walk-requires
list_walk-requires g c =
    let n = (goal.at.list_walk-requires g c).After-new-reader in
    (sym (formed g n), sym (counted g n), (grid_of c.args.grid, c.args.element_bytes, reads g n))

pub returns : goal.returns
unfolding grid_of grid_given
returns g c =
    let at = goal.at.returns g c in
    let a = c.args in
    let i = g.I.WalkedIndex in
    let m = g.met.I.WalkedIndex in
    let laws : Laws (i.walk a.index a.file.now) (i.located a.index a.file.now) (i.form a.index) (i.count a.index) =
    record { elements = m.elements_are a.index a.file.now; right = m.walk_right a.index a.file.now } in
    let n = at.After-new-reader in
    let e = c.list_walk.ensures (grid_of a.grid) a.element_bytes (reads g n) in
    let w = walk-read (i.walk a.index a.file.now) a.file.now _ _ c.new-reader.result (grid_of a.grid) a.element_bytes (length a.list.now)
    (formed g n) (counted g n) (reads g n) in
    -- the file holds bytes, and the count is a 64-bit number
    let bytes : (j : ℕ) → get_or a.file.now j 0 < 256 = λ j. omega (arith, c.type_inv.file j) in
    let fits : i.count a.index ≤ largest64 = omega (arith, c.slot_count.ensures) in
    let answer = e.0 ∙ ap counted_of w in
    let content = e.1 ∙ ap (λ (x : Listing). list_content x a.list.now) w in (
      answer,
      content,
      λ k h ranked. list-exact _ laws (elements g at.Start) refl refl bytes ranked fits a.list.now _ _ answer content k h,
    )
