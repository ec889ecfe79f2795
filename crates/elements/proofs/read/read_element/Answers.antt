-- `elements::read::read_element` meets its contract. Assumes nothing.
use mathlib.Core.Path.{◌≡◌, sym, ap, ◌∙◌}
use Rattle.std.proofs.Common.{rules}
use native.Mathlib.Omega.{arith}
use Rattle.std.specs.Prelude.{Ok, false}
use Rattle.fields.specs.Fields.{undefined_at}
use Rattle.chunk_grid.specs.Grid.{offsets}
use Rattle.element_form.specs.Form.{element_size_test}
use Rattle.element_form.proofs.Forms.{sized_width, sized-stride}
use Rattle.elements.specs.Values.{found_of, elements_of}
use Rattle.elements.proofs.Sized.{tested, element_refused, element-undefined, element_dropped, element_unnumbered, element_inside}
use Rattle.elements.proofs.read.read_element.Goals.{In_ok-sized, Else-is_undefined_addr}
use Rattle.elements.proofs.read.read_element.Goals as goal

pub returns-in_err-sized : goal.returns-in_err-sized
unfolding found_of
returns-in_err-sized c = λ grid n x.
    let e = ap found_of (element_refused (elements_of c.args.file.now c.args.reader.now grid n) c.args.pos c.args.slot _ c.in_err-sized.ensures) in
    search rules

passed : (c : In_ok-sized) → element_size_test c.args.reader.now.form ≡ Ok tt
passed c = let t = c.in_ok-sized.sized.sized in rw c.in_ok-sized.ensures at t

pub read_address-address-requires : goal.read_address-address-requires
read_address-address-requires c =
    let t = passed (goal.at.read_address-address-requires c).In_ok-sized in
    (omega (arith, c.requires, sized-stride _ t), sized_width _ t)

pub returns-then-is_undefined_addr : goal.returns-then-is_undefined_addr
unfolding found_of
returns-then-is_undefined_addr c = λ grid n x.
    let u = tested _ _ _ _ _ c.read_address-address.ensures c.is_undefined_addr.ensures ∙ c.if-is_undefined_addr.true in
    sym (ap found_of (element-undefined _ _ _ (passed (goal.at.returns-then-is_undefined_addr c).In_ok-sized) u))

defined : (c : Else-is_undefined_addr) → undefined_at c.args.file.now c.args.pos c.args.reader.now.form.offset_size ≡ false
defined c = tested _ _ _ _ _ c.read_address-address.ensures c.is_undefined_addr.ensures ∙ c.if-is_undefined_addr.false

pub returns-in_err-reach : goal.returns-in_err-reach
unfolding found_of
returns-in_err-reach c = λ grid n x.
    let at = goal.at.returns-in_err-reach c in
    let e = ap found_of (element_unnumbered (elements_of c.args.file.now c.args.reader.now grid n) c.args.pos c.args.slot (passed at.In_ok-sized) (defined at.Else-is_undefined_addr) _ (sym (c.reach.ensures grid x.numbered x.extended).0 ∙ c.in_err-reach.was)) in
    search rules

-- outside the extents
pub returns-then-not-branch : goal.returns-then-not-branch
unfolding found_of
returns-then-not-branch c = λ grid n x.
    let at = goal.at.returns-then-not-branch c in
    sym (ap found_of (element_dropped _ _ _ (passed at.In_ok-sized) (defined at.Else-is_undefined_addr) (sym (c.reach.ensures grid x.numbered x.extended).0 ∙ c.in_ok-reach.was ∙ ap Ok c.if-not-branch.true)))

pub read_entry-requires : goal.read_entry-requires
read_entry-requires c = rw c.in_ok-sized.ensures (c.requires, c.read_address-address.ensures)

pub returns : goal.returns
returns c = λ grid n x.
    let at = goal.at.returns c in
    let e = c.read_entry.ensures grid n (offsets grid c.args.slot) in
    (rw c.in_ok-sized.ensures at e) x.chunked
    ∙ sym (ap found_of (element_inside _ _ _ (passed at.In_ok-sized) (defined at.Else-is_undefined_addr) (sym (c.reach.ensures grid x.numbered x.extended).0 ∙ c.in_ok-reach.was ∙ ap Ok c.if-not-branch.false)))
