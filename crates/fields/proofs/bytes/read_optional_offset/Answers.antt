-- `fields::bytes::read_optional_offset` meets its contract. Assumes nothing.
use mathlib.Core.Path.{sym, ◌∙◌}
use Rattle.std.proofs.Common.{rules}
use Rattle.fields.proofs.Fields.{offset_undefined, offset_defined, offset_refused}
use Rattle.fields.proofs.bytes.read_optional_offset.Goals as goal

pub returns-in_err-value : goal.returns-in_err-value
returns-in_err-value c =
    let e = offset_refused c.args.s.now c.args.pos c.args.width _ (sym c.in_err-value.was ∙ c.read_offset.ensures) in
    search rules

pub returns-then-is_undefined_addr : goal.returns-then-is_undefined_addr
returns-then-is_undefined_addr c =
    offset_undefined _ _ _ _ (sym c.in_ok-value.was ∙ c.read_offset.ensures) (sym c.is_undefined_addr.ensures ∙ c.if-is_undefined_addr.true)

pub returns-else-is_undefined_addr : goal.returns-else-is_undefined_addr
returns-else-is_undefined_addr c =
    offset_defined _ _ _ _ (sym c.in_ok-value.was ∙ c.read_offset.ensures) (sym c.is_undefined_addr.ensures ∙ c.if-is_undefined_addr.false)
