-- `structures::test_structure` meets its contract. Assumes nothing.
use mathlib.Core.Path.{◌≡◌, sym, ◌∙◌}
use Rattle.std.proofs.Common.{rules}
use native.Mathlib.Omega.{arith}
use Rattle.std.specs.Prelude.{Ok}
use Rattle.refusal.specs.Refusals.{◌then◌}
use Rattle.fields.specs.Fields.{in_file}
use Rattle.structures.specs.Structures.{signature_test}
use Rattle.checksum.specs.Lookup3.{lookup3}
use Rattle.structures.proofs.StructureTests.{before_refused, before_inside, before_passed}
use Rattle.structures.proofs.test_structure.Goals.{In_ok-test_before_checksum}
use Rattle.structures.proofs.test_structure.Goals as goal

pub returns-in_err-test_before_checksum : goal.returns-in_err-test_before_checksum
returns-in_err-test_before_checksum c =
    let a = c.args in
    let e = before_refused a.kind a.file.now a.pos a.len lookup3 (sym c.in_err-test_before_checksum.was ∙ c.test_before_checksum.ensures) in
    search rules

-- behind the tests before the checksum
passed : (c : In_ok-test_before_checksum)
    → let a = c.args in
    Ok tt ≡ (in_file a.file.now a.pos a.len then signature_test a.kind a.file.now a.pos)
passed c = sym c.in_ok-test_before_checksum.was ∙ c.test_before_checksum.ensures

pub overflow_add-end : goal.overflow_add-end
overflow_add-end c = omega (arith, before_inside _ _ _ _ (passed (goal.at.overflow_add-end c).In_ok-test_before_checksum))

pub slice_bounds-verify_trailing-end : goal.slice_bounds-verify_trailing-end
slice_bounds-verify_trailing-end c =
    omega (arith, before_inside _ _ _ _ (passed (goal.at.slice_bounds-verify_trailing-end c).In_ok-test_before_checksum))

pub returns : goal.returns
returns c = c.verify_trailing.ensures ∙ before_passed _ _ _ _ _ (passed (goal.at.returns c).In_ok-test_before_checksum)
