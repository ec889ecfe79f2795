-- One list of spans after another: what it is, and how many there are. Assumes nothing.
use Prim.Native.Nat.{ℕ, ◌+◌}
use mathlib.Core.Path.{◌≡◌, refl, ap}
use mathlib.Core.List.{List, [], ◌∷◌, ◌++◌}
use native.Mathlib.Omega.{arith}
use lib.ListN.{length-append}
use Rattle.std.specs.Prelude.{Err, Ok}
use Rattle.refusal.specs.declared.Refusal.{Refusal}
use Rattle.refusal.specs.Outcome.{also}
use Rattle.refusal.specs.Values.{plus, counted_of}
use Rattle.refusal.proofs.Outcomes.{never}
use Rattle.refusal.proofs.Counts.{counted_inv, refused_inv}
use Rattle.span_walk.specs.declared.Span.{Span}
use Rattle.span_walk.specs.Walk.{Spanning, joined}

-- an accepted list is made of two
pub record Parts (a b : Spanning) (l : List Span) : Type 0 where
  pub first : List Span
  pub second : List Span
  pub first_is : a ≡ Ok first
  pub second_is : b ≡ Ok second
  pub is : l ≡ first ++ second

pub joined_inv : (a b : Spanning) (l : List Span) → joined a b ≡ Ok l → Parts a b l
unfolding joined
joined_inv (Err r) b l h = absurd (never r l h)
joined_inv (Ok m) (Err r) l h = absurd (never r l h)
joined_inv (Ok m) (Ok n) l h = record { first = m; second = n; first_is = refl; second_is = refl; is = cc }

-- one span before the others
pub also-joined : (s : Span) (b : Spanning) → also s b ≡ joined (Ok (s ∷ [])) b
unfolding also joined
also-joined s (Err r) = refl
also-joined s (Ok m) = refl

-- how many there are, by what was counted in front
pub plus-joined : (t n : ℕ) (a b : Spanning) → Ok n ≡ counted_of a → plus t (joined a b) ≡ plus (t + n) b
unfolding joined plus
plus-joined t n a b h = let i = counted_inv a n h in rw i.1 (go b)
  where
    go : (b : Spanning) → plus t (joined (Ok (counted_inv a n h).0) b) ≡ plus (t + n) b
    go (Err r) = refl
    go (Ok m) = ap Ok (omega (arith, length-append (counted_inv a n h).0 m, (counted_inv a n h).2))

pub plus_refused : (t : ℕ) (r : Refusal) (a b : Spanning) → Err r ≡ counted_of a → plus t (joined a b) ≡ Err r
unfolding joined plus
plus_refused t r a b h = rw (refused_inv a r h) refl
