-- Shapes read from bytes. Assumes nothing.
use Prim.Native.Nat.{ℕ, zero, suc, ◌+◌, ◌*◌, ◌<◌, ◌≤◌}
use mathlib.Core.Path.{◌≡◌, refl, sym, ap, ◌∙◌}
use mathlib.Core.List.{List, [], ◌∷◌, ◌++◌}
use native.Mathlib.Omega.{arith}
use native.Mathlib.Numerals.{add-one}
use borrow.Author.Tests.{eq-eqb, ne_eqb}
use lib.Dec.{eqb}
use lib.ListN.{length, get_or, take, drop, set, drop_of_length-le}
use lib.Seq.{drop-cons, drop-drop, sets, sets-eq, length-sets, take_at}
use Rattle.std.proofs.Common.{Bool, true, false, Bor}
use Rattle.std.specs.Bool.{then_some}
use Rattle.std.specs.Option.{is_some, unwrap_or, option_copied, option_map}
use Rattle.chunk_grid.specs.Grid.{given}
use Rattle.chunk_grid.specs.declared.GridOrder.{GridOrder}
use Rattle.fields.specs.LittleEndian.{le_at}
use Rattle.shapes.specs.Shapes.{numbers_in, other_rank, shape_of}
use Rattle.refusal.proofs.Tests.{by_cond}

pub length_numbers : (n : ℕ) (s : List ℕ) → length (numbers_in n s) ≡ n
unfolding numbers_in
length_numbers zero s = refl
length_numbers (suc n) s = ap suc (length_numbers n (drop 8 s))

-- number i stands at byte 8 × i
pub number_at : (n : ℕ) (s : List ℕ) (i : ℕ) → i < n → get_or (numbers_in n s) i 0 ≡ le_at s (8 * i) 8
unfolding numbers_in le_at
number_at zero s i h = absurd (omega arith)
number_at (suc n) s zero h = refl
number_at (suc n) s (suc i) h =
    let e : 8 + 8 * i ≡ 8 * suc i = omega arith in
    number_at n (drop 8 s) i (omega arith) ∙ rw (drop-drop (8 * i) 8 s, e) refl

-- a shape of the rank, and one of another
pub shape_is : (rank : ℕ) (s : List ℕ) → length s ≡ 8 * rank → shape_of rank s ≡ numbers_in rank s
unfolding shape_of
shape_is rank s e = simp (eq-eqb (length s) (8 * rank) e)

pub shape_none : (rank : ℕ) (s : List ℕ) → (length s ≡ 8 * rank → ⊥) → (rank ≡ 0 → ⊥) → shape_of rank s ≡ []
unfolding shape_of other_rank
shape_none zero s n z = absurd (z refl)
shape_none (suc r) s n z = simp (ne_eqb (length s) (8 * suc r) n)

pub shape_one : (rank : ℕ) (s : List ℕ) → (length s ≡ 8 * rank → ⊥) → rank ≡ 0 → shape_of rank s ≡ 0 ∷ []
unfolding shape_of other_rank
shape_one zero s n z = simp (ne_eqb (length s) (8 * 0) n)
shape_one (suc r) s n z = absurd (omega arith)

other_small : (r : ℕ) → length (other_rank r) ≤ 32
unfolding other_rank
other_small zero = omega arith
other_small (suc r) = omega arith

pub shape_small : (rank : ℕ) (s : List ℕ) → rank ≤ 32 → length (shape_of rank s) ≤ 32
unfolding shape_of
shape_small rank s h =
    by_cond (λ (l : List ℕ). length l ≤ 32) (eqb (length s) (8 * rank)) (λ t. omega (arith, length_numbers rank s)) (λ t. other_small rank)

-- a list that is stored from number i on
pub stored_on : (vs l : List ℕ) (i v : ℕ) → i < length vs → v ≡ get_or vs i 0 → sets (set l i v) (i + 1) (drop (i + 1) vs) ≡ sets l i (drop i vs)
stored_on vs l i v h e = rw (add-one, e, drop-cons vs i 0 h) refl

pub stored_end : (vs l : List ℕ) (i : ℕ) → length vs ≤ i → l ≡ sets l i (drop i vs)
stored_end vs l i h = rw (drop_of_length-le vs {i = i} h) refl

pub stored_front : (vs l : List ℕ) (n : ℕ) → length vs ≡ n → n ≤ length l → vs ++ drop n l ≡ sets l 0 vs
stored_front vs l n e room =
    let k : 0 + length vs ≡ n = omega arith in
    sym (sets-eq vs l 0 (omega arith) ∙ ap (λ (j : ℕ). vs ++ drop j l) k)

-- A list that begins with a shape of n numbers.
abbrev pub BeginsWith : ℕ → List ℕ → List ℕ → ℕ → Type 0
BeginsWith rank s out n = (n ≤ length out) × (take n out ≡ shape_of rank s) × (n ≡ length (take n out))

-- a shape that is stored at the beginning of a longer list
pub stored_shape : (rank : ℕ) (s l out : List ℕ) (n : ℕ) → rank ≤ 32 → 32 ≤ length l → n ≡ length (shape_of rank s) → out ≡ sets l 0 (shape_of rank s) → BeginsWith rank s out n
stored_shape rank s l out n small room e f =
    let vs = shape_of rank s in
    let h = shape_small rank s small in
    let long : length out ≡ length l = ap length f ∙ length-sets l 0 vs in
    let t : take n out ≡ vs = rw (e, f) (ap (take (length vs)) (sets-eq vs l 0 (omega arith)) ∙ take_at vs _ (length vs) refl) in
    (omega arith, t, e ∙ ap length (sym t))

-- a maximum that isn't given is no part of a grid
pub where_given : (rank : ℕ) (c p : List ℕ) (has : Bool) (m : Bor (List ℕ)) (o : GridOrder)
    → let t = option_map (shape_of rank) (option_copied (then_some has m)) in given rank c p (is_some t) (unwrap_or t []) o ≡ given rank c p has (shape_of rank m.now) o
unfolding given
where_given rank c p true m o = refl
where_given rank c p false m o = refl
