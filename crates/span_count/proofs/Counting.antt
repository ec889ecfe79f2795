-- How many spans there are, step by step, and that they are few. Assumes nothing.
use Prim.Native.Nat.{ℕ, zero, suc, ◌+◌, ◌-◌, ◌^◌, ◌<◌, ◌≤◌}
use mathlib.Core.Path.{◌≡◌, refl, sym, ap, ◌∙◌}
use mathlib.Core.Bool.{Bool, true, false, not}
use mathlib.Core.List.{List, []}
use native.Mathlib.Omega.{arith}
use native.Mathlib.Nat.{sub-zero}
use native.Mathlib.Numerals.{add-one}
use lib.ListN.{length, length-append}
use Rattle.std.specs.List.{filter, range_with_len}
use Rattle.std.specs.Prelude.{Err, Ok}
use Rattle.refusal.specs.declared.Refusal.{Refusal}
use Rattle.refusal.specs.Outcome.{also}
use Rattle.refusal.specs.Values.{plus, counted_of}
use Rattle.refusal.proofs.Tests.{by_cond}
use Rattle.refusal.proofs.Outcomes.{yields_inv, also_inv}
use Rattle.refusal.proofs.Counts.{counted_inv, refused_inv, plus_zero, plus_none}
use Rattle.fields.specs.Fields.{undefined}
use Rattle.ea_header.specs.Values.{Served}
use Rattle.ea_geometry.specs.Sizes.{super_blocks, blocks, blocks_before}
use Rattle.ea_geometry.proofs.Counts.{supers_few, blocks_before_few}
use Rattle.ea_blocks.specs.Array.{Array}
use Rattle.ea_blocks.specs.Structures.{is_direct, super_undefined, block_undefined}
use Rattle.span_walk.specs.declared.Span.{Span}
use Rattle.span_walk.specs.Walk.{Spanning, block_spans, super_spans, supers_from, index_spans}
use Rattle.span_walk.proofs.Joined.{joined_inv, plus-joined, plus_refused}
use Rattle.span_walk.proofs.Turns.{supers_none, supers_next}

-- a count, or a refusal, with one span more
pub counted_more : (s : Span) (a : Spanning) (n : ℕ) → Ok n ≡ counted_of a → Ok (n + 1) ≡ counted_of (also s a)
unfolding counted_of also
counted_more s a n h =
    let i = counted_inv a n h in
    rw i.1 (ap Ok (let z : n + 1 ≡ suc (length i.0) = omega (arith, i.2) in z))

pub refused_more : (s : Span) (a : Spanning) (r : Refusal) → Err r ≡ counted_of a
    → Err r ≡ counted_of (also s a)
unfolding counted_of also
refused_more s a r h = rw (refused_inv a r h) refl

-- There are no more spans than super blocks and data blocks.
pub block_spans_few : (a : Array) (u j k : ℕ) → length (block_spans a u j k) ≤ j
unfolding block_spans
block_spans_few a u zero k = omega arith
block_spans_few a u (suc j) k =
    let i = block_spans_few a u j (k + 1) in
    by_cond (λ (l : List Span). length l ≤ suc j) (block_undefined a u k) (λ t. omega arith) (λ t. omega arith)

super_few : (a : Array) (u : ℕ) (l : List Span) → super_spans a u ≡ Ok l → length l ≤ blocks u + 1
unfolding super_spans
super_few a u l h =
    let i = block_spans_few a u (blocks u) 0 in
    by_cond P (is_direct a u) (λ d e. let z : block_spans a u (blocks u) 0 ≡ l = cc in omega (arith, ap length z))
    (λ d. by_cond P (super_undefined a u) (λ w e. let z : l ≡ [] = cc in omega (arith, ap length z))
    (λ w e.
    let o = also_inv _ _ l (yields_inv _ _ l e).1 in
    let z : block_spans a u (blocks u) 0 ≡ o.0 = cc in
    omega (arith, ap length z, ap length o.2))) h
  where
    P : Spanning → Type 0
    P b = b ≡ Ok l → length l ≤ blocks u + 1

before_next : (u : ℕ) → blocks_before (u + 1) ≡ blocks_before u + blocks u
unfolding blocks_before
before_next u = rw (add-one u) refl

supers_length : (a : Array) (j u : ℕ) (l : List Span) → supers_from a j u ≡ Ok l
    → length l + blocks_before u ≤ j + blocks_before (u + j)
unfolding supers_from
supers_length a zero u l h =
    let e : l ≡ [] = cc in
    let z : u + 0 ≡ u = omega arith in
    rw (z, e) (omega arith)
supers_length a (suc j) u l h =
    let p = joined_inv _ _ l h in
    let z : u + suc j ≡ u + 1 + j = omega arith in
    rw z (omega (
      arith,
      super_few a u p.first p.first_is,
      supers_length a j (u + 1) p.second p.second_is,
      before_next u,
      ap length p.is,
      length-append p.first p.second,
    ))

-- so they are few
supers_bound : (a : Array) (l : List Span) → Served a.parameters → supers_from a (super_blocks a.parameters) 0 ≡ Ok l
    → length l < 2 ^ 34
supers_bound a l v h =
    let n = super_blocks a.parameters in
    let z : 0 + n ≡ n = omega arith in
    omega (arith, rw z at (supers_length a n 0 l h), blocks_before_few a.parameters v n (omega arith), supers_few a.parameters v)

pub supers_bounded : (a : Array) (n : ℕ) → Served a.parameters
    → Ok n ≡ counted_of (supers_from a (super_blocks a.parameters) 0) → n < 2 ^ 34
supers_bounded a n v h = let i = counted_inv _ n h in omega (arith, i.2, supers_bound a i.0 v i.1)

pub index_bounded : (a : Array) (n : ℕ) → Served a.parameters → Ok n ≡ counted_of (index_spans a) → n < 2 ^ 35
unfolding index_spans
index_bounded a n v h =
    by_cond (λ (b : Spanning). Ok n ≡ counted_of b → n < 2 ^ 35) (undefined a.offset_size a.index_at)
    (λ t e. let i = counted_inv _ n e in let z : i.0 ≡ [] = cc in omega (arith, i.2, ap length z))
    (λ t e.
    let i = counted_inv _ n e in
    let o = also_inv _ _ i.0 (yields_inv _ _ i.0 i.1).1 in
    omega (arith, i.2, ap length o.2, supers_bound a o.0 v o.1)) h

-- As many of j data blocks from k on have spans as are pointed to.
abbrev pub pointed : Array → ℕ → ℕ → Bool
pointed a u k = not (block_undefined a u k)

pub pointed_spans : (a : Array) (u j k : ℕ) → length (filter (pointed a u) (range_with_len k j)) ≡ length (block_spans a u j k)
unfolding block_spans
pointed_spans a u zero k = refl
pointed_spans a u (suc j) k = go (block_undefined a u k) refl (pointed_spans a u j (k + 1))
  where
    go : (b : Bool) → block_undefined a u k ≡ b → length (filter (pointed a u) (range_with_len (k + 1) j)) ≡ length (block_spans a u j (k + 1))
        → length (filter (pointed a u) (range_with_len k (suc j))) ≡ length (block_spans a u (suc j) k)
    go true e i = rw e i
    go false e i = rw e (ap suc i)

-- At super block u of n: those before it are accepted, and have `total` spans.
module _ (a : Array) (n : ℕ) where
  pub record AtSuper (total u : ℕ) : Type 0 where
    pub few : total ≤ u + blocks_before u
    pub rest : plus total (supers_from a (n - u) u) ≡ counted_of (supers_from a n 0)

  pub super_first : AtSuper 0 0
  super_first = record { few = omega arith; rest = rw sub-zero (plus_zero (supers_from a n 0)) }

  module _ {total u : ℕ} (s : AtSuper total u) where
    pub few_counted : Served a.parameters → u ≤ super_blocks a.parameters → total < 2 ^ 34
    few_counted v le = let x = s.few in omega (arith, blocks_before_few a.parameters v u le, supers_few a.parameters v)

    pub supers_done : n ≤ u → Ok total ≡ counted_of (supers_from a n 0)
    supers_done le = sym (plus_none total _ (supers_none a u n le)) ∙ s.rest

    module _ (lt : u < n) where
      pub super_refused : (r : Refusal) → Err r ≡ counted_of (super_spans a u)
          → Err r ≡ counted_of (supers_from a n 0)
      super_refused r e = sym (plus_refused total r _ _ e) ∙ ap (plus total) (sym (supers_next a u n lt)) ∙ s.rest

      pub super_counted : (m : ℕ) → Ok m ≡ counted_of (super_spans a u) → AtSuper (total + m) (u + 1)
      super_counted m e = record {
        few = let i = counted_inv _ m e in let x = s.few in omega (arith, before_next u, i.2, super_few a u i.0 i.1);
        rest = sym (plus-joined total m _ _ e) ∙ ap (plus total) (sym (supers_next a u n lt)) ∙ s.rest;
      }
