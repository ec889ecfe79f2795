-- What served parameters keep to. Assumes nothing.
use Prim.Native.Nat.{◌^◌, ◌<◌, ◌≤◌}
use mathlib.Core.Path.{◌≡◌}
use mathlib.Core.Bool.{true, false, ◌&&◌}
use borrow.Author.Tests.{eqb-true, leb-true, eq-eqb, le-leb, not-false}
use lib.Dec.{eqb, leb}
use native.Mathlib.Omega.{arith}
use lib.Pow.{pow_pos, pow_mono}
use Rattle.std.specs.Prelude.{Ok}
use Rattle.ea_header.specs.Log.{log2}
use Rattle.ea_header.specs.Served.{served, served_test}
use Rattle.ea_header.specs.Values.{Served}
use Rattle.ea_header.specs.declared.Parameters.{Parameters}
use Rattle.refusal.proofs.Tests.{both, refuse_inv}
use Rattle.ea_header.proofs.Log.{exponent_lt}

pub serves : (h : Parameters) → served h ≡ true → Served h
unfolding served
serves h t =
    let a = both _ _ t in
    let b = both _ _ a.0 in
    let d = both _ _ b.0 in
    let e = both _ _ d.0 in
    record { power = eqb-true _ _ e.0; least = leb-true _ _ e.1; bits = leb-true _ _ d.1; minimum = leb-true _ _ b.1; page = leb-true _ _ a.1 }

pub serves_back : (h : Parameters) → Served h → served h ≡ true
unfolding served
serves_back h v =
    rw (eq-eqb h.min_dblk_nelmts _ v.power, le-leb _ _ v.least, le-leb _ _ v.bits, le-leb _ _ v.minimum, le-leb _ _ v.page)

pub tested_serves : (h : Parameters) → served_test h ≡ Ok tt → Served h
unfolding served_test
tested_serves h t = serves h (not-false _ (refuse_inv _ _ t))

pub least_pos : (h : Parameters) → Served h → 0 < h.min_dblk_nelmts
least_pos h v = let p = pow_pos (log2 h.min_dblk_nelmts) in let q = v.power in omega arith

pub log_small : (h : Parameters) → Served h → log2 h.min_dblk_nelmts ≤ 7
log_small h v = let lt = exponent_lt (log2 h.min_dblk_nelmts) 8 (omega (arith, v.power, v.least)) in omega arith

-- the test, one part after the other; a power of two below 256 is at most 128
pub not_power : (h : Parameters) → eqb h.min_dblk_nelmts (2 ^ log2 h.min_dblk_nelmts) ≡ false → false ≡ served h
unfolding served
not_power h e = simp e

pub power_first : (h : Parameters) → eqb h.min_dblk_nelmts (2 ^ log2 h.min_dblk_nelmts) ≡ true → h.min_dblk_nelmts < 256
    → served h ≡ leb h.max_nelmts_bits 62 && leb h.super_blk_min_nelmts 32 && leb h.max_dblk_nelmts_bits 32
unfolding served
power_first h e lt =
    let p = eqb-true h.min_dblk_nelmts (2 ^ log2 h.min_dblk_nelmts) e in
    let few = exponent_lt (log2 h.min_dblk_nelmts) 8 (omega arith) in
    let most = pow_mono {i = log2 h.min_dblk_nelmts} {j = 7} (omega arith) in
    simp (e, le-leb h.min_dblk_nelmts 128 (omega arith))
