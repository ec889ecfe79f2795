-- `ea_count::walk::count_unreadable` meets its contract. Assumes nothing.
use mathlib.Core.Path.{sym, ap, ◌∙◌}
use native.Mathlib.Omega.{arith}
use Rattle.std.proofs.Common.{rules}
use Rattle.elements.specs.Values.{elements_of}
use Rattle.ea_blocks.specs.Values.{array_of}
use Rattle.fields.specs.Fields.{is_width}
use Rattle.element_form.specs.declared.Form.{Form}
use Rattle.ea_count.proofs.Heads.{never_sized, unreadable_none, unreadable_pointer, unreadable_element}
use Rattle.ea_count.proofs.walk.count_unreadable.Goals as goal

pub returns-then-reader-eq0 : goal.returns-then-reader-eq0
returns-then-reader-eq0 c = λ f grid n. unreadable_none _ _ c.if-reader-eq0.true

pub returns-then-array-eq0 : goal.returns-then-array-eq0
returns-then-array-eq0 c = λ f grid n.
    let some = c.if-reader-eq0.false in
    unreadable_pointer _ _ (omega arith) c.requires.1 c.if-array-eq0.true

pub returns-in_err-test : goal.returns-in_err-test
returns-in_err-test c = λ f grid n.
    let a = c.args in
    let some = c.if-reader-eq0.false in
    let inline = c.if-array-eq0.false in
    let h = unreadable_element (array_of f a.array) (elements_of f a.reader.now grid n) (omega arith) _ (sym c.test.ensures ∙ c.in_err-test.was) (omega arith) in
    search rules

pub returns : goal.returns
returns c = λ f grid n.
    let w = ap (λ (x : Form). is_width x.offset_size) (sym c.requires.0) ∙ c.requires.1 in
    absurd (never_sized c.args.reader.now.form w (sym c.test.ensures ∙ c.in_ok-test.was))
