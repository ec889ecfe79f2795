-- `structures::test_two_structures` meets its contract. Assumes nothing.
use Prim.Native.Nat.{◌+◌, ◌≤◌}
use mathlib.Core.Path.{sym, ◌∙◌}
use native.Mathlib.Omega.{arith}
use lib.ListN.{length}
use Rattle.structures.proofs.StructureTests.{before_inside, before_passed}
use Rattle.structures.proofs.test_two_structures.Goals.{In-Ok-Ok}
use Rattle.structures.proofs.test_two_structures.Goals as goal

-- behind the tests before each checksum
room : (c : In-Ok-Ok)
    → let a = c.args in
    (a.pos + a.len ≤ length a.file.now) × (a.other + a.len ≤ length a.file.now)
room c = (
  before_inside _ _ _ _ (sym c.in-Ok-Ok.is-0 ∙ c.test_before_checksum-before.ensures),
  before_inside _ _ _ _ (sym c.in-Ok-Ok.is-1 ∙ c.test_before_checksum-other_before.ensures),
)

pub overflow_add-end : goal.overflow_add-end
overflow_add-end c = omega (arith, room (goal.at.overflow_add-end c).In-Ok-Ok)

pub overflow_add-other_end : goal.overflow_add-other_end
overflow_add-other_end c = omega (arith, room (goal.at.overflow_add-other_end c).In-Ok-Ok)

pub slice_bounds-verify_trailing_two-end : goal.slice_bounds-verify_trailing_two-end
slice_bounds-verify_trailing_two-end c =
    omega (arith, room (goal.at.slice_bounds-verify_trailing_two-end c).In-Ok-Ok)

pub slice_bounds-verify_trailing_two-end-in-Ok-Ok : goal.slice_bounds-verify_trailing_two-end-in-Ok-Ok
slice_bounds-verify_trailing_two-end-in-Ok-Ok c =
    omega (arith, room (goal.at.slice_bounds-verify_trailing_two-end-in-Ok-Ok c).In-Ok-Ok)

pub returns-in-Ok-Ok : goal.returns-in-Ok-Ok
returns-in-Ok-Ok c = (
  c.verify_trailing_two.ensures.0 ∙ before_passed _ _ _ _ _ (sym c.in-Ok-Ok.is-0 ∙ c.test_before_checksum-before.ensures),
  c.verify_trailing_two.ensures.1 ∙ before_passed _ _ _ _ _ (sym c.in-Ok-Ok.is-1 ∙ c.test_before_checksum-other_before.ensures),
)
