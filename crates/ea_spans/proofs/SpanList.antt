-- The list's answer and its two lists, one law for each way that it ends. Assumes nothing.
use Prim.Native.Nat.{ℕ, ◌^◌, ◌<◌}
use mathlib.Core.Path.{◌≡◌, refl, sym}
use mathlib.Core.List.{List}
use native.Mathlib.Omega.{arith}
use lib.ListN.{length}
use Rattle.std.specs.Prelude.{Err, Ok}
use Rattle.refusal.specs.declared.Refusal.{Refusal}
use Rattle.refusal.specs.Refusals.{figure, Outcome}
use Rattle.refusal.specs.Outcome.{◌yields◌, also}
use Rattle.refusal.specs.Values.{counted_of}
use Rattle.ea_header.specs.Header.{header_bytes, header_at}
use Rattle.ea_blocks.specs.Array.{Array, array_from}
use Rattle.span_walk.specs.Spans.{header_span}
use Rattle.span_walk.specs.Walk.{Spanning, index_spans, head_test, spans}
use Rattle.span_walk.proofs.Heads.{head_passed}
use Rattle.ea_spans.specs.SpanList.{filled, address_of, length_of}

-- what is answered, and what two lists are then
abbrev pub ListedAs : Spanning → Outcome ℕ → List ℕ → List ℕ → List ℕ → List ℕ → Type 0
ListedAs a r addresses lengths A L = (r ≡ counted_of a) × (A ≡ filled address_of a 0 addresses) × (L ≡ filled length_of a 0 lengths)

-- a refusal leaves both lists
pub listed_refused : (a : Spanning) (r : Refusal) (addresses lengths : List ℕ) → a ≡ Err r
    → ListedAs a (Err r) addresses lengths addresses lengths
unfolding counted_of filled
listed_refused a r addresses lengths e = rw e (refl, refl, refl)

-- the header's tests
module _ (f : List ℕ) (address o l : ℕ) where
  pub spans_refused : (r : Refusal) → Err r ≡ head_test f address o l → spans f address o l ≡ Err r
  unfolding spans ◌yields◌
  spans_refused r e = rw (sym e) refl

  -- behind them, the header's span and those of its index
  pub spans_are : Ok tt ≡ head_test f address o l → length f < 2 ^ 63
      → (a : Array) → a ≡ array_from f (header_at f address o l) o
      → (n : ℕ) → n ≡ figure (header_bytes o l)
      → also (record { address = address; length = n }) (index_spans a) ≡ spans f address o l
  unfolding spans ◌yields◌ header_span figure
  spans_are e short a q n s =
      let p = head_passed f address o l e in
      let z : n ≡ header_bytes o l = omega (arith, p.0) in
      rw (sym e, z, q) refl
