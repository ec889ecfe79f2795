-- Members of lists, and what a loop over them has at each turn. Assumes nothing.
use Prim.Native.Nat.{ℕ, zero, suc, ◌+◌, ◌<◌, ◌≤◌}
use mathlib.Core.Path.{subst, ◌≡◌, refl, sym, ◌∙◌}
use mathlib.Core.Bool.{Bool, true, false, ◌&&◌}
use mathlib.Core.List.{List, [], ◌∷◌}
use native.Mathlib.Numerals.{add-one}
use native.Mathlib.Omega.{arith}
use native.Mathlib.Decide.{ℕ_discrete}
use denote.Param.Members.{Mut}
use Rattle.std.specs.Array.{IsFromFnResultFrom, IsFromFnResult}
use Rattle.std.specs.Iterator.{ActsAs}
use lib.ListN.{length-take, length, get_or, take, drop, set, drop_of_length-le}
use lib.Seq.{ext_get_or, get_or-take, drop-cons, take-suc, take-suc-set}
use Rattle.chunk_grid.specs.Grid.{pairwise, every, any, multiplier, multipliers}
use Rattle.refusal.proofs.Tests.{neither}
use Rattle.std.specs.List.{list_any}

pub get_d_pairwise : (f : ℕ → ℕ → ℕ) (l m : List ℕ) (i : ℕ) → length l ≡ length m → i < length l → get_or (pairwise f l m) i 0 ≡ f (get_or l i 0) (get_or m i 0)
unfolding pairwise
get_d_pairwise f [] m i e h = absurd (omega arith)
get_d_pairwise f (a ∷ l) [] i e h = absurd (omega arith)
get_d_pairwise f (a ∷ l) (b ∷ m) zero e h = refl
get_d_pairwise f (a ∷ l) (b ∷ m) (suc i) e h = get_d_pairwise f l m i (omega arith) (omega arith)

pub any_at : (p : ℕ → Bool) (l : List ℕ) (i : ℕ) → any p l ≡ false → i < length l → p (get_or l i 0) ≡ false
unfolding any
any_at p [] i e h = absurd (omega arith)
any_at p (a ∷ l) zero e h = (neither (p a) (any p l) e).0
any_at p (a ∷ l) (suc i) e h = any_at p l i (neither (p a) (any p l) e).1 (omega arith)

pub multiplier_at : (cs : List ℕ) (i : ℕ) → i < length cs → get_or (multipliers cs) i 0 ≡ multiplier (drop (suc i) cs)
unfolding multipliers
multiplier_at [] i h = absurd (omega arith)
multiplier_at (c ∷ cs) zero h = refl
multiplier_at (c ∷ cs) (suc i) h = multiplier_at cs i (omega arith)

-- one member more of l is stored
pub take_more : (l out : List ℕ) (i v : ℕ) → take i out ≡ take i l → i < length out → i < length l → v ≡ get_or l i 0 → take (i + 1) (set out i v) ≡ take (i + 1) l
take_more l out i v e room inside is =
    rw add-one (take-suc-set out i v room ∙ rw (e, is) refl ∙ sym (take-suc l i 0 inside))

module _ (p : ℕ → ℕ → Bool) (l m : List ℕ) (i : ℕ) where
  pub every_end : length l ≤ i → every p (drop i l) (drop i m) ≡ true
  unfolding every
  every_end h = rw (drop_of_length-le l {i = i} h) refl

  pub every_step : i < length l → i < length m → every p (drop i l) (drop i m) ≡ p (get_or l i 0) (get_or m i 0) && every p (drop (i + 1) l) (drop (i + 1) m)
  unfolding every
  every_step h k = rw (drop-cons l i 0 h, drop-cons m i 0 k, add-one) refl

-- an array that a function makes, a number for each place
module _ {F : Type 0} (g : Mut F (ℕ × Unit {0}) ℕ) (f : F) (h : ℕ → ℕ) (acts : ActsAs g f h) (made : List ℕ) where
  made_from : (n i : ℕ) → IsFromFnResultFrom g f made i n → (k : ℕ) → i ≤ k → k < i + n → get_or made k 0 ≡ h k
  made_from zero i r k low high = absurd (omega arith)
  made_from (suc n) i r k low high =
      let t = acts i r.1 r.0 r.3 in
      go (ℕ_discrete k i) (r.2.1 0 ∙ t.1) (made_from n (i + 1) (subst (λ p. IsFromFnResultFrom g p made (i + 1) n) t.0 r.4) k)
    where
      go : Dec (k ≡ i) → get_or made i 0 ≡ h i → (i + 1 ≤ k → k < i + 1 + n → get_or made k 0 ≡ h k) → get_or made k 0 ≡ h k
      go (yes e) here later = rw e here
      go (no d) here later = later (omega (arith, d)) (omega arith)

  pub member_made : (n : ℕ) → IsFromFnResult g f made n → (k : ℕ) → k < n → get_or made k 0 ≡ h k
  member_made n r k lt = made_from n 0 r.each k (omega arith) (omega arith)

-- an array that has the members of s, up to 32 of them, in front
pub front_stored : (s r : List ℕ) → length r ≡ 32 → ((k : ℕ) → k < 32 → get_or r k 0 ≡ get_or s k 0) → take (length s) r ≡ take 32 s
front_stored s r size each =
    let a = length-take (length s) r in
    let b = length-take 32 s in
    ext_get_or 0 (take (length s) r) (take 32 s) (omega (arith, a, b))
    (λ k lt. get_or-take (length s) r k 0 (omega (arith, a)) ∙ each k (omega (arith, a)) ∙ sym (get_or-take 32 s k 0 (omega (arith, a))))

-- std's word for a member that passes
pub any_list : (p : ℕ → Bool) (l : List ℕ) → list_any p l ≡ any p l
unfolding any
any_list p [] = refl
any_list p (a ∷ l) = rw (any_list p l) refl
