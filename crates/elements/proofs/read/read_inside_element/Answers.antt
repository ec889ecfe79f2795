-- `elements::read::read_inside_element` meets its contract. Assumes nothing.
use mathlib.Core.Path.{sym, ap, ◌∙◌}
use native.Mathlib.Omega.{arith}
use Rattle.element_form.proofs.Forms.{sized_width, sized-stride}
use Rattle.elements.specs.Values.{found_of}
use Rattle.elements.proofs.Sized.{tested, element-undefined, element_inside}
use Rattle.elements.proofs.read.read_inside_element.Goals as goal

pub read_address-address-requires : goal.read_address-address-requires
read_address-address-requires c =
    let t = c.args.sized.now.sized in
    (omega (arith, c.requires, sized-stride _ t), sized_width _ t)

pub returns-then-is_undefined_addr : goal.returns-then-is_undefined_addr
unfolding found_of
returns-then-is_undefined_addr c = λ grid n s e i.
    let u = tested _ _ _ _ _ c.read_address-address.ensures c.is_undefined_addr.ensures ∙ c.if-is_undefined_addr.true in
    sym (ap found_of (element-undefined _ _ s c.args.sized.now.sized u))

pub returns : goal.returns
returns c = λ grid n s e i.
    let d = tested _ _ _ _ _ c.read_address-address.ensures c.is_undefined_addr.ensures ∙ c.if-is_undefined_addr.false in
    c.read_entry.ensures grid n _ e ∙ sym (ap found_of (element_inside _ _ s c.args.sized.now.sized d i))
