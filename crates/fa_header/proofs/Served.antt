-- What a served header keeps to. Assumes nothing.
use Prim.Native.Nat.{◌≤◌}
use mathlib.Core.Path.{◌≡◌}
use mathlib.Core.Bool.{true}
use borrow.Author.Tests.{leb-true, le-leb, not-false}
use Rattle.std.specs.Prelude.{Ok}
use Rattle.refusal.specs.Refusals.{refuse}
use Rattle.refusal.proofs.Tests.{refuse_inv}
use Rattle.fa_header.specs.declared.FixedArrayHeader.{FixedArrayHeader}
use Rattle.fa_header.specs.Served.{fixed_served, fixed_served_test}

module _ (h : FixedArrayHeader) where
  pub serves : fixed_served h ≡ true → h.max_nelmts_bits ≤ 32
  unfolding fixed_served
  serves t = leb-true h.max_nelmts_bits 32 t

  pub serves_back : h.max_nelmts_bits ≤ 32 → fixed_served h ≡ true
  unfolding fixed_served
  serves_back le = le-leb h.max_nelmts_bits 32 le

  pub tested_serves : fixed_served_test h ≡ Ok tt → h.max_nelmts_bits ≤ 32
  unfolding fixed_served_test
  tested_serves t = serves (not-false (fixed_served h) (refuse_inv _ _ t))

  pub served_passes : h.max_nelmts_bits ≤ 32 → fixed_served_test h ≡ Ok tt
  unfolding fixed_served_test refuse
  served_passes le = rw (serves_back le)
