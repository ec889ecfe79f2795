-- The dimension at each place of the grid's order, and what is stored place by place. Assumes nothing.
use Prim.Native.Nat.{ℕ, zero, suc, ◌+◌, ◌-◌, ◌<◌, ◌≤◌}
use mathlib.Core.Path.{◌≡◌, refl, sym, ap, ◌∙◌}
use mathlib.Core.List.{List, [], ◌∷◌, ◌++◌}
use mathlib.Core.Logic.{◌⊎◌, inl, inr, ⊎_elim}
use native.Mathlib.Decide.{ℕ_discrete}
use native.Mathlib.Omega.{arith}
use native.Mathlib.Nat.{add-zero, zero-add}
use borrow.Author.Tests.{lt-ltb, le-ltb}
use lib.ListN.{length, get_or, take, drop, set, length-set, get_or-append}
use lib.Seq.{get_or-take, get_or-drop, get_or-append-add, get_or-set_same, get_or-set_other, length-take-le, ext_get_or, sets, length-sets}
use Rattle.chunk_grid.specs.Grid.{to_front, from_front}
use Rattle.chunk_grid.specs.Values.{dim_at}
use Rattle.refusal.proofs.Tests.{lt_or_ge}
use Rattle.chunk_grid.proofs.Order.{front_is, front_back, length_front, length_back}

-- dimensions before the leading one are one place later, the others stand where they were
pub dim_low : (u i : ℕ) → i < u → dim_at u (suc i) ≡ i
unfolding dim_at
dim_low u i h = simp (lt-ltb i u h)

pub dim_high : (u i : ℕ) → u ≤ i → dim_at u (suc i) ≡ suc i
unfolding dim_at
dim_high u i h = simp (le-ltb i u h)

pub dim_zero : (u : ℕ) → dim_at u 0 ≡ u
unfolding dim_at
dim_zero u = refl

-- each case of a place: leading, one place later, where it was
pub place-cases {κ} : (P : ℕ → ℕ → Type κ) (u : ℕ) → P 0 u → ((i : ℕ) → i < u → P (suc i) i) → ((i : ℕ) → u ≤ i → P (suc i) (suc i)) → (i : ℕ) → P i (dim_at u i)
place-cases P u lead low high zero = rw (dim_zero u) lead
place-cases P u lead low high (suc i) = ⊎_elim (λ (h : i < u). rw (dim_low u i h) (low i h)) (λ (h : u ≤ i). rw (dim_high u i h) (high i h)) (lt_or_ge i u)

pub dim_lt : (u n i : ℕ) → u < n → i < n → dim_at u i < n
dim_lt u n i k = place-cases (λ i d. i < n → d < n) u (λ h. k) (λ i l h. omega arith) (λ i l h. h) i

-- every dimension has its place, ..
pub placed : (u n k : ℕ) → k < n → u < n → (i : ℕ) × (i < n) × (dim_at u i ≡ k)
placed u n k h l = go (ℕ_discrete k u) (lt_or_ge k u) k refl
  where
    go : Dec (k ≡ u) → (k < u) ⊎ (u ≤ k) → (j : ℕ) → k ≡ j → (i : ℕ) × (i < n) × (dim_at u i ≡ k)
    go (yes e) o j q = (0, omega arith, dim_zero u ∙ sym e)
    go (no d) (inl s) j q = (suc k, omega arith, dim_low u k s)
    go (no d) (inr s) zero q = absurd (d (omega arith))
    go (no d) (inr s) (suc j) q = (suc j, omega arith, dim_high u j (let n : k ≡ u → ⊥ = d in omega arith) ∙ sym q)

-- .. and no two places have one dimension.
pub dim_inj : (u i j : ℕ) → dim_at u i ≡ dim_at u j → i ≡ j
dim_inj u i j =
    place-cases (λ i d. d ≡ dim_at u j → i ≡ j) u
    (place-cases (λ j e. u ≡ e → 0 ≡ j) u (λ q. refl) (λ j l q. absurd (omega arith)) (λ j l q. absurd (omega arith)) j)
    (λ i k. place-cases (λ j e. i ≡ e → suc i ≡ j) u (λ q. absurd (omega arith)) (λ j l q. omega arith) (λ j l q. absurd (omega arith)) j)
    (λ i k. place-cases (λ j e. suc i ≡ e → suc i ≡ j) u (λ q. absurd (omega arith)) (λ j l q. absurd (omega arith)) (λ j l q. omega arith) j) i

-- the member at a place of a list in the grid's order
pub front_at : (u i : ℕ) (l : List ℕ) → u < length l → i < length l → get_or (to_front u l) i 0 ≡ get_or l (dim_at u i) 0
front_at u i l k h =
    ap (λ (m : List ℕ). get_or m i 0) (front_is u l k)
    ∙ place-cases (λ i d. i < length l → get_or (get_or l u 0 ∷ (take u l ++ drop (suc u) l)) i 0 ≡ get_or l d 0) u
    (λ z. refl)
    (λ i s z. get_or-append (take u l) (drop (suc u) l) 0 i (omega (arith, length-take-le u l (omega arith))) ∙ get_or-take u l i 0 s)
    (λ i s z.
    let e : i ≡ length (take u l) + (i - u) = omega (arith, length-take-le u l (omega arith)) in
    let f : suc u + (i - u) ≡ suc i = omega arith in
    ap (λ (j : ℕ). get_or (take u l ++ drop (suc u) l) j 0) e ∙ get_or-append-add (take u l) (drop (suc u) l) (i - u) 0
    ∙ get_or-drop (suc u) l (i - u) 0 ∙ ap (λ (j : ℕ). get_or l j 0) f) i h

pub read_at : (u i d : ℕ) (l : List ℕ) → u < length l → i < length l → d ≡ dim_at u i → (d < length l) × (get_or l d 0 ≡ get_or (to_front u l) i 0)
read_at u i d l k h e = rw e (dim_lt u (length l) i k h, sym (front_at u i l k h))

pub back_at : (u i : ℕ) (l : List ℕ) → u < length l → i < length l → get_or (from_front u l) (dim_at u i) 0 ≡ get_or l i 0
back_at u i l k h =
    let e = length_back u l (omega arith) in
    sym (front_at u i (from_front u l) (omega arith) (omega arith)) ∙ ap (λ (m : List ℕ). get_or m i 0) (front_back u l (omega arith))

-- the first `rank` members of an array, in the grid's order
abbrev pub in_order : ℕ → ℕ → List ℕ → List ℕ
in_order rank u l = to_front u (take rank l)

module _ (rank u : ℕ) (l : List ℕ) (leads : u ≤ rank - 1) (room : rank ≤ length l) where
  pub length_order : length (in_order rank u l) ≡ rank
  length_order = let e = length-take-le rank l room in length_front u (take rank l) (omega arith) ∙ e

  pub order_at : (i : ℕ) → i < rank → get_or (in_order rank u l) i 0 ≡ get_or l (dim_at u i) 0
  order_at i h =
      let e = length-take-le rank l room in
      front_at u i (take rank l) (omega arith) (omega arith) ∙ get_or-take rank l (dim_at u i) 0 (dim_lt u rank i (omega arith) h)

-- a run of stores, member by member
sets_low : (w l : List ℕ) (i k : ℕ) → k < i → get_or (sets l i w) k 0 ≡ get_or l k 0
sets_low [] l i k h = refl
sets_low (a ∷ w) l i k h = sets_low w (set l i a) (suc i) k (omega arith) ∙ get_or-set_other l i k a 0 (λ e. omega arith)

sets_at : (w l : List ℕ) (i k : ℕ) → k < length w → i + k < length l → get_or (sets l i w) (i + k) 0 ≡ get_or w k 0
sets_at [] l i k h room = absurd (omega arith)
sets_at (a ∷ w) l i zero h room = rw add-zero (sets_low w (set l i a) (suc i) i (omega arith) ∙ get_or-set_same l i a 0 (omega arith))
sets_at (a ∷ w) l i (suc k) h room =
    let e : i + suc k ≡ suc i + k = omega arith in
    ap (λ (n : ℕ). get_or (sets (set l i a) (suc i) w) n 0) e ∙ sets_at w (set l i a) (suc i) k (omega arith) (omega (arith, length-set l i a))

sets_past : (w l : List ℕ) (i k : ℕ) → i + length w ≤ k → get_or (sets l i w) k 0 ≡ get_or l k 0
sets_past [] l i k h = refl
sets_past (a ∷ w) l i k h = sets_past w (set l i a) (suc i) k (omega arith) ∙ get_or-set_other l i k a 0 (λ e. omega arith)

-- What is stored so far: v of each of the first i places, at its dimension; the rest is as it was.
pub record Stored (u i : ℕ) (v : ℕ → ℕ) (l out : List ℕ) : Type 0 where
  pub size : length out ≡ length l
  pub done : (j : ℕ) → j < i → dim_at u j < length l → get_or out (dim_at u j) 0 ≡ v j
  pub kept : (k : ℕ) → ((j : ℕ) → j < i → dim_at u j ≡ k → ⊥) → get_or out k 0 ≡ get_or l k 0

pub stored_none : (u : ℕ) (v : ℕ → ℕ) (l : List ℕ) → Stored u 0 v l l
stored_none u v l = record { size = refl; done = λ j h r. absurd (omega arith); kept = λ k n. refl }

pub stored_more : (u i : ℕ) (v : ℕ → ℕ) (l out : List ℕ) (x : ℕ) → Stored u i v l out → x ≡ v i → Stored u (i + 1) v l (set out (dim_at u i) x)
stored_more u i v l out x s e = record { size = length-set out (dim_at u i) x ∙ s.size; done = done; kept = kept }
  where
    done : (j : ℕ) → j < i + 1 → dim_at u j < length l → get_or (set out (dim_at u i) x) (dim_at u j) 0 ≡ v j
    done j h r = go (ℕ_discrete j i)
      where
        go : Dec (j ≡ i) → get_or (set out (dim_at u i) x) (dim_at u j) 0 ≡ v j
        go (yes q) = ap (λ (k : ℕ). get_or (set out (dim_at u i) x) (dim_at u k) 0) q ∙ get_or-set_same out (dim_at u i) x 0 (rw (s.size, ← q) r) ∙ e ∙ ap v (sym q)
        go (no n) = get_or-set_other out (dim_at u i) (dim_at u j) x 0 (λ q. n (dim_inj u j i q)) ∙ s.done j (omega arith) r

    kept : (k : ℕ) → ((j : ℕ) → j < i + 1 → dim_at u j ≡ k → ⊥) → get_or (set out (dim_at u i) x) k 0 ≡ get_or l k 0
    kept k n =
        get_or-set_other out (dim_at u i) k x 0 (λ q. n i (omega arith) (sym q)) ∙ s.kept k (λ j h. n j (omega arith))

-- all n places: the list that has v of each is stored at the beginning
pub stored_all : (u n : ℕ) (v : ℕ → ℕ) (l out w : List ℕ) → u ≤ n - 1 → length w ≡ n → ((j : ℕ) → j < n → get_or w (dim_at u j) 0 ≡ v j)
    → Stored u n v l out → out ≡ sets l 0 w
stored_all u n v l out w h size each s =
    ext_get_or 0 out (sets l 0 w) (s.size ∙ sym (length-sets l 0 w))
    (λ k inside. ⊎_elim (λ (lt : k < n).
    let p = placed u n k lt (omega arith) in
    rw (← p.2) (s.done p.0 p.1 (omega (arith, p.2, s.size)) ∙ sym (each p.0 p.1)) ∙ sym (rw zero-add at (sets_at w l 0 k (omega arith) (omega (arith, s.size)))))
    (λ (ge : n ≤ k).
    s.kept k (λ j l q. let d = dim_lt u n j (omega arith) l in omega arith) ∙ sym (sets_past w l 0 k (omega arith)))
    (lt_or_ge k n))
