-- Lists in the grid's order: a member moved to the front and back, and lists taken member by member. Assumes nothing.
use Prim.Native.Nat.{ℕ, zero, suc, ◌+◌, ◌-◌, ◌<◌, ◌≤◌, min}
use mathlib.Core.Path.{◌≡◌, refl, sym, ap, ◌∙◌}
use mathlib.Core.Bool.{Bool, true, false, ◌&&◌, ◌||◌, and_assoc, or_assoc}
use mathlib.Core.List.{List, [], ◌∷◌, ◌++◌}
use native.Mathlib.Omega.{arith}
use lib.ListN.{length, get_or, take, drop, length-append, length-take, length-drop, take-append-drop}
use lib.Seq.{drop-cons, split_at, append_snoc, take_at, drop_at, length-take-le}
use Rattle.chunk_grid.specs.Grid.{pairwise, every, any, to_front, from_front}

-- a list with member u moved to the front
pub front_is : (u : ℕ) (l : List ℕ) → u < length l → to_front u l ≡ get_or l u 0 ∷ (take u l ++ drop (suc u) l)
unfolding to_front
front_is u l h = ap (λ (m : List ℕ). take 1 m ++ take u l ++ drop (suc u) l) (drop-cons l u 0 h)

pub back_is : (u : ℕ) (x : ℕ) (a b : List ℕ) → length a ≡ u → from_front u (x ∷ (a ++ b)) ≡ a ++ x ∷ b
unfolding from_front
back_is u x a b h = rw (take_at a b u h, drop_at a b u h) (append_snoc a x b)

pub front_nil : (u : ℕ) → to_front u [] ≡ []
unfolding to_front
front_nil zero = refl
front_nil (suc u) = refl

back_nil : (u : ℕ) → from_front u [] ≡ []
unfolding from_front
back_nil zero = refl
back_nil (suc u) = refl

-- Below, u is one of the members, or 0 where there are none.
pub back_front : (u : ℕ) (l : List ℕ) → u ≤ length l - 1 → from_front u (to_front u l) ≡ l
back_front u [] h = ap (from_front u) (front_nil u) ∙ back_nil u
back_front u (x ∷ m) h =
    let l = x ∷ m in
    let k : u < length l = omega arith in
    ap (from_front u) (front_is u l k) ∙ back_is u (get_or l u 0) (take u l) (drop (suc u) l) (length-take-le u l (omega arith)) ∙ sym (split_at l u 0 k)

drop_past : (a : List ℕ) (x : ℕ) (b : List ℕ) → drop (suc (length a)) (a ++ x ∷ b) ≡ b
drop_past [] x b = refl
drop_past (y ∷ a) x b = drop_past a x b

to_front_lem : (u : ℕ) (x : ℕ) (a b : List ℕ) → length a ≡ u → to_front u (a ++ x ∷ b) ≡ x ∷ (a ++ b)
unfolding to_front
to_front_lem u x a b h =
    let d : drop (suc u) (a ++ x ∷ b) ≡ b = ap (λ (n : ℕ). drop (suc n) (a ++ x ∷ b)) (sym h) ∙ drop_past a x b in
    rw (take_at a (x ∷ b) u h, drop_at a (x ∷ b) u h, d) refl

pub front_back : (u : ℕ) (l : List ℕ) → u ≤ length l - 1 → to_front u (from_front u l) ≡ l
front_back u [] h = ap (to_front u) (back_nil u) ∙ front_nil u
front_back u (x ∷ m) h =
    let a = length-take-le u m (omega arith) in
    let t = sym (take-append-drop u m) in
    ap (λ (l : List ℕ). to_front u (from_front u (x ∷ l))) t ∙ ap (to_front u) (back_is u x (take u m) (drop u m) a)
    ∙ to_front_lem u x (take u m) (drop u m) a ∙ ap (λ (l : List ℕ). x ∷ l) (sym t)

pub length_front : (u : ℕ) (l : List ℕ) → u ≤ length l - 1 → length (to_front u l) ≡ length l
length_front u [] h = ap length (front_nil u)
length_front u (x ∷ m) h =
    ap length (front_is u (x ∷ m) (omega arith)) ∙ rw (length-append, length-take, length-drop) (omega arith)

pub length_back : (u : ℕ) (l : List ℕ) → u ≤ length l - 1 → length (from_front u l) ≡ length l
unfolding from_front
length_back zero [] h = refl
length_back (suc u) [] h = refl
length_back u (x ∷ m) h =
    length-append (take u m ++ (x ∷ [])) (drop u m) ∙ ap (λ (n : ℕ). n + length (drop u m)) (length-append (take u m) (x ∷ []))
    ∙ rw (length-take u m, length-drop u m) (omega arith)

-- lists of one length, member by member
pub length-pairwise : (f : ℕ → ℕ → ℕ) (l m : List ℕ) → length l ≡ length m → length (pairwise f l m) ≡ length l
unfolding pairwise
length-pairwise f [] m h = refl
length-pairwise f (a ∷ l) [] h = absurd (omega arith)
length-pairwise f (a ∷ l) (b ∷ m) h = ap suc (length-pairwise f l m (omega arith))

pairwise_append : (f : ℕ → ℕ → ℕ) (a b l m : List ℕ) → length a ≡ length b → pairwise f (a ++ l) (b ++ m) ≡ pairwise f a b ++ pairwise f l m
unfolding pairwise
pairwise_append f [] [] l m h = refl
pairwise_append f [] (y ∷ b) l m h = absurd (omega arith)
pairwise_append f (x ∷ a) [] l m h = absurd (omega arith)
pairwise_append f (x ∷ a) (y ∷ b) l m h = ap (λ (k : List ℕ). f x y ∷ k) (pairwise_append f a b l m (omega arith))

pairwise-take : (f : ℕ → ℕ → ℕ) (n : ℕ) (l m : List ℕ) → pairwise f (take n l) (take n m) ≡ take n (pairwise f l m)
unfolding pairwise
pairwise-take f zero l m = refl
pairwise-take f (suc n) [] m = refl
pairwise-take f (suc n) (a ∷ l) [] = refl
pairwise-take f (suc n) (a ∷ l) (b ∷ m) = ap (λ (k : List ℕ). f a b ∷ k) (pairwise-take f n l m)

pairwise_nil : (f : ℕ → ℕ → ℕ) (l : List ℕ) → pairwise f l [] ≡ []
unfolding pairwise
pairwise_nil f [] = refl
pairwise_nil f (a ∷ l) = refl

pairwise-drop : (f : ℕ → ℕ → ℕ) (n : ℕ) (l m : List ℕ) → pairwise f (drop n l) (drop n m) ≡ drop n (pairwise f l m)
unfolding pairwise
pairwise-drop f zero l m = refl
pairwise-drop f (suc n) [] m = refl
pairwise-drop f (suc n) (a ∷ l) [] = pairwise_nil f (drop n l)
pairwise-drop f (suc n) (a ∷ l) (b ∷ m) = pairwise-drop f n l m

same_take : (n : ℕ) (l m : List ℕ) → length l ≡ length m → length (take n l) ≡ length (take n m)
same_take n l m h = length-take n l ∙ ap (min n) h ∙ sym (length-take n m)

pub same_drop : (n : ℕ) (l m : List ℕ) → length l ≡ length m → length (drop n l) ≡ length (drop n m)
same_drop n l m h = length-drop n l ∙ ap (λ (k : ℕ). k - n) h ∙ sym (length-drop n m)

three : (f : ℕ → ℕ → ℕ) (a b d a' b' d' : List ℕ) → length a ≡ length a' → length b ≡ length b'
    → pairwise f (a ++ b ++ d) (a' ++ b' ++ d') ≡ pairwise f a a' ++ pairwise f b b' ++ pairwise f d d'
three f a b d a' b' d' h k =
    pairwise_append f (a ++ b) (a' ++ b') d d' (rw (length-append a b, length-append a' b') (omega arith))
    ∙ ap (λ (l : List ℕ). l ++ pairwise f d d') (pairwise_append f a a' b b' h)

pub pairwise_front : (f : ℕ → ℕ → ℕ) (u : ℕ) (l m : List ℕ) → length l ≡ length m → pairwise f (to_front u l) (to_front u m) ≡ to_front u (pairwise f l m)
unfolding to_front
pairwise_front f u l m h =
    three f (take 1 (drop u l)) (take u l) (drop (suc u) l) (take 1 (drop u m)) (take u m) (drop (suc u) m)
    (same_take 1 (drop u l) (drop u m) (same_drop u l m h)) (same_take u l m h)
    ∙ rw (← pairwise-take f u l m, ← pairwise-drop f (suc u) l m, ← pairwise-drop f u l m, ← pairwise-take f 1 (drop u l) (drop u m)) refl

pub pairwise_back : (f : ℕ → ℕ → ℕ) (u : ℕ) (l m : List ℕ) → length l ≡ length m → pairwise f (from_front u l) (from_front u m) ≡ from_front u (pairwise f l m)
unfolding from_front
pairwise_back f u l m h =
    three f (take u (drop 1 l)) (take 1 l) (drop (suc u) l) (take u (drop 1 m)) (take 1 m) (drop (suc u) m)
    (same_take u (drop 1 l) (drop 1 m) (same_drop 1 l m h)) (same_take 1 l m h)
    ∙ rw (← pairwise-take f 1 l m, ← pairwise-drop f (suc u) l m, ← pairwise-drop f 1 l m, ← pairwise-take f u (drop 1 l) (drop 1 m)) refl

-- a list is as good moved as unmoved
every_append : (p : ℕ → ℕ → Bool) (a b l m : List ℕ) → length a ≡ length b → every p (a ++ l) (b ++ m) ≡ every p a b && every p l m
unfolding every
every_append p [] [] l m h = refl
every_append p [] (y ∷ b) l m h = absurd (omega arith)
every_append p (x ∷ a) [] l m h = absurd (omega arith)
every_append p (x ∷ a) (y ∷ b) l m h = ap (λ (t : Bool). p x y && t) (every_append p a b l m (omega arith)) ∙ sym (and_assoc (p x y) (every p a b) (every p l m))

any_append : (p : ℕ → Bool) (a b : List ℕ) → any p (a ++ b) ≡ any p a || any p b
unfolding any
any_append p [] b = refl
any_append p (x ∷ a) b = ap (λ (t : Bool). p x || t) (any_append p a b) ∙ sym (or_assoc (p x) (any p a) (any p b))

and_swap : (x a b : Bool) → x && (a && b) ≡ a && (x && b)
and_swap true a b = refl
and_swap false true b = refl
and_swap false false b = refl

or_swap : (x a b : Bool) → x || (a || b) ≡ a || (x || b)
or_swap false a b = refl
or_swap true true b = refl
or_swap true false b = refl

pub every_front : (p : ℕ → ℕ → Bool) (u : ℕ) (l m : List ℕ) → length l ≡ length m → u ≤ length l - 1 → every p (to_front u l) (to_front u m) ≡ every p l m
unfolding every
every_front p u [] [] h k = ap (λ (l : List ℕ). every p l l) (front_nil u)
every_front p u [] (y ∷ m) h k = absurd (omega arith)
every_front p u (x ∷ t) m h k =
    let l = x ∷ t in
    let a = same_take u l m h in
    rw (front_is u l (omega arith), front_is u m (omega arith))
    (ap (λ (t : Bool). p (get_or l u 0) (get_or m u 0) && t) (every_append p (take u l) (take u m) (drop (suc u) l) (drop (suc u) m) a)
    ∙ and_swap (p (get_or l u 0) (get_or m u 0)) (every p (take u l) (take u m)) (every p (drop (suc u) l) (drop (suc u) m))
    ∙ sym (every_append p (take u l) (take u m) (get_or l u 0 ∷ drop (suc u) l) (get_or m u 0 ∷ drop (suc u) m) a)
    ∙ rw (← split_at l u 0 (omega arith), ← split_at m u 0 (omega arith)) refl)

pub any_front : (p : ℕ → Bool) (u : ℕ) (l : List ℕ) → u ≤ length l - 1 → any p (to_front u l) ≡ any p l
unfolding any
any_front p u [] k = ap (any p) (front_nil u)
any_front p u (x ∷ t) k =
    let l = x ∷ t in
    ap (any p) (front_is u l (omega arith))
    ∙ ap (λ (t : Bool). p (get_or l u 0) || t) (any_append p (take u l) (drop (suc u) l))
    ∙ or_swap (p (get_or l u 0)) (any p (take u l)) (any p (drop (suc u) l))
    ∙ sym (any_append p (take u l) (get_or l u 0 ∷ drop (suc u) l))
    ∙ ap (any p) (sym (split_at l u 0 (omega arith)))
