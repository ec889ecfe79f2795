-- Which spans an accepted walk has. Assumes nothing.
use Prim.Native.Nat.{ℕ, zero, suc, ◌+◌, ◌<◌, ◌≤◌}
use mathlib.Core.Path.{◌≡◌, refl, sym, ap, subst, ◌∙◌}
use mathlib.Core.Bool.{true, false, not, ◌||◌}
use mathlib.Core.List.Memᴰ
use mathlib.Core.List.{List, ◌∷◌, Memᴰ}
use mathlib.Core.Logic.{⊎_elim}
use native.Mathlib.Omega.{arith}
use native.Mathlib.Nat.{eq-or-lt_of_le}
use borrow.Author.Tests.{not-true}
use Rattle.std.specs.Prelude.{Ok}
use Rattle.refusal.proofs.Tests.{by_cond, false_true, both}
use Rattle.refusal.proofs.Outcomes.{yields_inv, also_inv}
use Rattle.ea_geometry.specs.Sizes.{blocks}
use Rattle.ea_blocks.specs.Array.{Array}
use Rattle.ea_blocks.specs.Structures.{super_block, data_block, is_direct, super_undefined, block_undefined}
use Rattle.ea_blocks.specs.Places.{block_reached}
use Rattle.span_walk.specs.declared.Span.{Span}
use Rattle.span_walk.specs.Spans.{span_of}
use Rattle.span_walk.specs.Walk.{Spanning, block_spans, super_spans, supers_from}
use Rattle.span_walk.proofs.Joined.{joined_inv}

-- every span of one list is in another
abbrev pub Among : List Span → List Span → Type 0
Among m l = (s : Span) → Memᴰ s m → Memᴰ s l

pub among_cons : {s : Span} {m l : List Span} → l ≡ s ∷ m → Among m l
among_cons e t h = subst (Memᴰ t) (sym e) (Memᴰ.tail h)

pub head_cons : {s : Span} {m l : List Span} → l ≡ s ∷ m → Memᴰ s l
head_cons {s} e = subst (Memᴰ s) (sym e) (Memᴰ.head refl)

-- those of the data blocks from k on
blocks_in : (a : Array) (u j k i : ℕ) → k ≤ i → i < k + j → block_undefined a u i ≡ false
    → Memᴰ (span_of a (data_block u i)) (block_spans a u j k)
unfolding block_spans
blocks_in a u zero k i le lt e = absurd (omega arith)
blocks_in a u (suc j) k i le lt e =
    let later : k < i → Memᴰ (span_of a (data_block u i)) (block_spans a u j (k + 1))
    = λ q. blocks_in a u j (k + 1) i (omega arith) (omega arith) e in
    by_cond (Memᴰ (span_of a (data_block u i))) (block_undefined a u k)
    (λ t. ⊎_elim (λ (q : k ≡ i). absurd (false_true (sym e ∙ ap (block_undefined a u) (sym q) ∙ t))) later (eq-or-lt_of_le le))
    (λ t. ⊎_elim (λ (q : k ≡ i). Memᴰ.head (ap (λ (x : ℕ). span_of a (data_block u x)) (sym q)))
    (λ q. Memᴰ.tail (later q)) (eq-or-lt_of_le le))

-- those of super block u
pub record Holds (a : Array) (u : ℕ) (l : List Span) : Type 0 where
  pub super : is_direct a u ≡ false → super_undefined a u ≡ false → Memᴰ (span_of a (super_block u)) l
  pub block : (k : ℕ) → k < blocks u → block_reached a u k ≡ true → Memᴰ (span_of a (data_block u k)) l

module _ (a : Array) (u : ℕ) (l : List Span) where
  -- a data block that is reached is pointed to
  blocks_held : Among (block_spans a u (blocks u) 0) l → (k : ℕ) → k < blocks u → block_reached a u k ≡ true
      → Memᴰ (span_of a (data_block u k)) l
  unfolding block_reached
  blocks_held m k lt r =
      m _ (blocks_in a u (blocks u) 0 k (omega arith) (omega arith)
      (not-true _ (both (is_direct a u || not (super_undefined a u)) (not (block_undefined a u k)) r).1))

  super_holds : super_spans a u ≡ Ok l → Holds a u l
  unfolding super_spans block_reached
  super_holds h =
      by_cond P (is_direct a u)
      (λ d e.
      let z : block_spans a u (blocks u) 0 ≡ l = cc in
      record { super = λ x. absurd (false_true (sym x ∙ d)); block = blocks_held (λ s. subst (Memᴰ s) z) })
      (λ d. by_cond P (super_undefined a u)
      (λ w e. record { super = λ x y. absurd (false_true (sym y ∙ w)); block = λ k lt r. absurd (false_true (rw (d, w) at r)) })
      (λ w e.
      let o = also_inv _ _ l (yields_inv _ _ l e).1 in
      let z : block_spans a u (blocks u) 0 ≡ o.0 = cc in
      record { super = λ x y. head_cons o.2; block = blocks_held (λ s m. among_cons o.2 s (subst (Memᴰ s) z m)) })) h
    where
      P : Spanning → Type 0
      P b = b ≡ Ok l → Holds a u l

-- those of the super blocks from u on
pub supers_in : (a : Array) (j u : ℕ) (l m : List Span) → supers_from a j u ≡ Ok m → Among m l
    → (v : ℕ) → u ≤ v → v < u + j → Holds a v l
unfolding supers_from
supers_in a zero u l m h i v le lt = absurd (omega arith)
supers_in a (suc j) u l m h i v le lt =
    let p = joined_inv _ _ m h in
    let first : Among p.first l = λ s x. i s (subst (Memᴰ s) (sym p.is) (Memᴰ.append_left p.second x)) in
    let second : Among p.second l = λ s x. i s (subst (Memᴰ s) (sym p.is) (Memᴰ.append_right p.first x)) in
    let b = super_holds a u p.first p.first_is in
    let here : Holds a u l = record { super = λ x y. first _ (b.super x y); block = λ k lt r. first _ (b.block k lt r) } in
    ⊎_elim (λ (q : u ≡ v). subst (λ (x : ℕ). Holds a x l) q here)
    (λ (q : u < v). supers_in a j (u + 1) l p.second p.second_is second v (omega arith) (omega arith))
    (eq-or-lt_of_le le)
