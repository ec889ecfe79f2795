-- What has passed its test where the tests on the way to a slot's place have passed. Assumes nothing.
use Prim.Native.Nat.{ℕ}
use mathlib.Core.Path.{◌≡◌}
use mathlib.Core.Bool.{true, false}
use Rattle.std.specs.Prelude.{Ok}
use Rattle.refusal.proofs.Tests.{then_inv}
use Rattle.fa_geometry.specs.Layout.{is_paged, page_of_slot}
use Rattle.fa_blocks.specs.FixedArray.{FixedArray, never_stored}
use Rattle.fa_blocks.specs.Blocks.{fixed_block_test, fixed_page_set, fixed_page_test, in_set_page, fixed_path_test}

module _ (a : FixedArray) (s : ℕ) (n : never_stored a ≡ false) (t : fixed_path_test a s ≡ Ok tt) where
  pub block_passed : fixed_block_test a ≡ Ok tt
  unfolding fixed_path_test
  block_passed = (then_inv _ _ (rw n at t)).0

  pub page_passed : is_paged a.header ≡ true → fixed_page_set a (page_of_slot a.header s) ≡ true → fixed_page_test a (page_of_slot a.header s) ≡ Ok tt
  unfolding in_set_page fixed_path_test
  page_passed q b = (then_inv _ _ (rw (n, q, b) at t)).1
