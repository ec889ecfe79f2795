-- `elements::read::read_entry` meets its contract. Assumes nothing.
use Prim.Native.Nat.{◌+◌, ◌≤◌}
use mathlib.Core.Path.{◌≡◌, sym, ap, ◌∙◌}
use mathlib.Core.Bool.{true}
use native.Mathlib.Omega.{arith}
use lib.ListN.{length}
use Rattle.element_form.specs.Form.{filtered, size_bytes}
use Rattle.element_form.proofs.Forms.{filtered_room}
use Rattle.elements.specs.Values.{found_of}
use Rattle.elements.proofs.Sized.{entry_plain, entry_wide, entry_filtered}
use Rattle.elements.proofs.read.read_entry.Goals.{Else-not-is_filtered, Else-width-gt8}
use Rattle.elements.proofs.read.read_entry.Goals as goal

pub returns-then-not-is_filtered : goal.returns-then-not-is_filtered
returns-then-not-is_filtered c = λ grid n corner e.
    c.entry_of.ensures corner ∙ ap found_of (entry_plain _ _ corner (sym c.is_filtered.ensures ∙ c.if-not-is_filtered.true) _ _ c.requires.1 e)

is_filtered : (c : Else-not-is_filtered) → filtered c.args.sized.now.reader.form ≡ true
is_filtered c = sym c.is_filtered.ensures ∙ c.if-not-is_filtered.false

pub size_bytes-width-requires : goal.size_bytes-width-requires
size_bytes-width-requires c = (c.args.sized.now.sized, is_filtered (goal.at.size_bytes-width-requires c).Else-not-is_filtered)

pub returns-then-width-gt8 : goal.returns-then-width-gt8
unfolding found_of
returns-then-width-gt8 c = λ grid n corner e.
    ap found_of (entry_wide _ _ corner (is_filtered (goal.at.returns-then-width-gt8 c).Else-not-is_filtered) _ c.size_bytes-width.ensures c.if-width-gt8.true)

room : (c : Else-width-gt8)
    → (c.args.sized.now.reader.form.offset_size + c.size_bytes-width.result + 4 ≡ c.args.sized.now.reader.form.element_size)
    × (c.args.pos + c.args.sized.now.reader.form.element_size ≤ length c.args.file.now)
unfolding size_bytes
room c =
    let r = filtered_room _ c.args.sized.now.sized (is_filtered (goal.at.Else-width-gt8 c).Else-not-is_filtered) _ _ c.requires.0 in
    (omega (arith, r.0, c.size_bytes-width.ensures), r.1)

pub overflow_add-at : goal.overflow_add-at
overflow_add-at c = omega (arith, room (goal.at.overflow_add-at c).Else-width-gt8)

pub read_le-size-requires : goal.read_le-size-requires
read_le-size-requires c = omega (arith, room (goal.at.read_le-size-requires c).Else-width-gt8)

pub overflow_add-at-2 : goal.overflow_add-at-2
overflow_add-at-2 c = omega (arith, room (goal.at.overflow_add-at-2 c).Else-width-gt8)

pub read_u32_le-mask-requires : goal.read_u32_le-mask-requires
read_u32_le-mask-requires c = omega (arith, room (goal.at.read_u32_le-mask-requires c).Else-width-gt8)

pub returns : goal.returns
returns c = λ grid n corner e.
    c.entry_of-2.ensures corner
    ∙ ap found_of (entry_filtered _ _ corner (is_filtered (goal.at.returns c).Else-not-is_filtered) _ c.size_bytes-width.ensures c.if-width-gt8.false _ _ _ c.requires.1 c.read_le-size.ensures.0 c.read_u32_le-mask.ensures)
