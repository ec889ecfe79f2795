-- `structures::header::test_header` meets its contract. Assumes nothing.
use Prim.Native.Nat.{◌+◌, ◌-◌, ◌≤◌}
use mathlib.Core.Path.{◌≡◌, sym, ◌∙◌}
use native.Mathlib.Omega.{arith}
use lib.ListN.{length, take, drop}
use Rattle.std.proofs.Common.{rules}
use Rattle.refusal.specs.Refusals.{◌then◌}
use Rattle.fields.proofs.Fields.{inside}
use Rattle.checksum.specs.Lookup3.{lookup3}
use Rattle.checksum.specs.Trailing.{trailing_test}
use Rattle.structures.specs.Header.{signed_header_test}
use Rattle.structures.proofs.header.test_header.Goals.{In_ok-ensure_len}
use Rattle.structures.proofs.header.test_header.Goals as goal

-- past the first test, the header lies in the file
room : (c : In_ok-ensure_len)
    → let a = c.args in
    a.address + a.size ≤ length a.file.now
room c = inside _ _ _ (sym c.in_ok-ensure_len.was ∙ c.ensure_len.ensures)

pub returns-in_err-ensure_len : goal.returns-in_err-ensure_len
unfolding signed_header_test ◌then◌
returns-in_err-ensure_len c = search rules

pub test_form-requires : goal.test_form-requires
test_form-requires c = omega (arith, c.requires, room (goal.at.test_form-requires c).In_ok-ensure_len)

pub returns-in_err-test_form : goal.returns-in_err-test_form
unfolding signed_header_test ◌then◌
returns-in_err-test_form c = search rules

pub returns-in_err-test_sizes : goal.returns-in_err-test_sizes
unfolding signed_header_test ◌then◌
returns-in_err-test_sizes c = search rules

pub overflow_add-end : goal.overflow_add-end
overflow_add-end c = omega (arith, room (goal.at.overflow_add-end c).In_ok-ensure_len)

pub slice_bounds-verify_trailing-end : goal.slice_bounds-verify_trailing-end
slice_bounds-verify_trailing-end c = omega (arith, room (goal.at.slice_bounds-verify_trailing-end c).In_ok-ensure_len)

-- past the others, its checksum decides
pub returns : goal.returns
unfolding signed_header_test ◌then◌
returns c =
    let a = c.args in
    let e : a.address + a.size - a.address ≡ a.size = omega arith in
    let t : c.verify_trailing.result ≡ trailing_test lookup3 (take a.size (drop a.address a.file.now)) = rw e at c.verify_trailing.ensures in
    search rules
