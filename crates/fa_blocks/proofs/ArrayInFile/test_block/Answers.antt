-- `fa_blocks::ArrayInFile::test_block` meets its contract. Assumes nothing.
use Prim.Native.Nat.{ℕ}
use mathlib.Core.Path.{◌≡◌, sym, ap, ◌∙◌}
use native.Mathlib.Omega.{arith}
use Rattle.std.proofs.Common.{rules}
use Rattle.std.specs.Prelude.{Err}
use Rattle.refusal.specs.declared.Refusal.TheVariants.{FixedDataBlockSignature}
use Rattle.refusal.specs.Refusals.{◌then◌}
use Rattle.refusal.proofs.Tests.{then_first, then_second, then_assoc}
use Rattle.fields.specs.Fields.{in_file}
use Rattle.fields.proofs.Fields.{figure_in_file}
use Rattle.checksum.specs.Lookup3.{lookup3}
use Rattle.structures.specs.declared.Kind.TheVariants.{Signed, Page}
use Rattle.structures.specs.Structures.{signature_test, structure_test}
use Rattle.structures.proofs.StructureTests.{figure_structure}
use Rattle.element_form.specs.Form.{room_test}
use Rattle.fa_geometry.specs.Layout.{fixed_form, fixed_prefix}
use Rattle.fa_blocks.specs.Blocks.{fixed_block_test}
use Rattle.fa_blocks.specs.Values.{fixed_in}
use Rattle.fa_blocks.proofs.ArrayInFile.test_block.Goals.{After-test_before_checksum, After-test_room}
use Rattle.fa_blocks.proofs.ArrayInFile.test_block.Goals as goal

-- the tests of the prefix, of which 2^64 − 1 bytes stand for more
prefix_is : (c : After-test_before_checksum)
    → let f = c.args.self.file.now in
    let at = c.args.self.layout.array.header.data_block_address in
    c.test_before_checksum.result
    ≡ in_file f at (fixed_prefix c.args.self.layout.array.offset_size) then signature_test (Signed FixedDataBlockSignature 0x4244_4146) f at
prefix_is c =
    rw (c.test_before_checksum.ensures, c.prefix.ensures, figure_in_file c.args.self.file.now c.args.self.layout.array.header.data_block_address (fixed_prefix c.args.self.layout.array.offset_size) (omega arith))

room_is : (c : After-test_room) → c.test_room.result ≡ room_test (fixed_form c.args.self.layout.array.header c.args.self.layout.array.offset_size)
room_is c = c.test_room.ensures ∙ ap room_test c.form.ensures

pub returns-in_err-test_before_checksum : goal.returns-in_err-test_before_checksum
unfolding fixed_block_test
returns-in_err-test_before_checksum c =
    let p = prefix_is (goal.at.returns-in_err-test_before_checksum c).After-test_before_checksum in
    let e : Err c.in_err-test_before_checksum.field-0.0 ≡ fixed_block_test (fixed_in c.args.self)
    = then_first _ _ (sym c.in_err-test_before_checksum.was ∙ p) ∙ then_assoc _ _ _ in
    search rules

pub returns-in_err-test_room : goal.returns-in_err-test_room
unfolding fixed_block_test
returns-in_err-test_room c =
    let l = goal.at.returns-in_err-test_room c in
    let p = prefix_is l.After-test_before_checksum in
    let e : Err c.in_err-test_room.field-0.0 ≡ fixed_block_test (fixed_in c.args.self)
    = then_first _ _ (sym c.in_err-test_room.was ∙ room_is l.After-test_room) ∙ then_second _ _ (sym c.in_ok-test_before_checksum.was ∙ p) ∙ then_assoc _ _ _ in
    search rules

pub returns : goal.returns
unfolding fixed_block_test
returns c =
    let l = goal.at.returns c in
    let a = c.args.self in
    c.test_structure.ensures ∙ ap (λ (n : ℕ). structure_test lookup3 Page a.file.now a.layout.array.header.data_block_address n) c.tested_extent.ensures
    ∙ figure_structure _ _ _ _ _ (omega arith) ∙ then_second _ _ (sym c.in_ok-test_room.was ∙ room_is l.After-test_room)
    ∙ then_second _ _ (sym c.in_ok-test_before_checksum.was ∙ prefix_is l.After-test_before_checksum) ∙ then_assoc _ _ _
