-- A header that has passed its tests. Assumes nothing.
use Prim.Native.Nat.{ℕ, ◌+◌, ◌≤◌}
use mathlib.Core.Path.{◌≡◌, sym}
use mathlib.Core.Bool.{true}
use mathlib.Core.List.{List}
use lib.ListN.{length}
use Rattle.std.specs.Prelude.{Ok}
use Rattle.refusal.proofs.Tests.{then_passed}
use Rattle.fields.specs.Fields.{is_width}
use Rattle.checksum.specs.Lookup3.{lookup3}
use Rattle.structures.proofs.HeaderTests.{passed_is}
use Rattle.ea_header.specs.Header.{header_bytes, header_at, header_test}
use Rattle.ea_header.specs.Values.{Served}
use Rattle.ea_header.proofs.Served.{tested_serves}
use Rattle.span_walk.specs.Walk.{head_test}

pub head_passed : (f : List ℕ) (address o l : ℕ) → Ok tt ≡ head_test f address o l
    → (address + header_bytes o l ≤ length f) × (is_width o ≡ true) × Served (header_at f address o l).parameters
unfolding head_test header_test
head_passed f address o l e =
    let a = then_passed _ _ e in
    let b = then_passed _ _ a.1 in
    let p = passed_is _ _ lookup3 f address _ o l (sym b.0) in
    (p.0, p.1, tested_serves _ (sym b.1))
