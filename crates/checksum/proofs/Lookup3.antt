-- Laws of lookup3's blocks. Assumes nothing.
use Rattle.std.proofs.Common.{◌≡◌, ℕ, suc, ◌+◌, ◌-◌, ◌/◌, ◌%◌, ◌^◌, ◌<◌, ◌≤◌, List, [], ◌∷◌, length, take, drop, ◌++◌, sym, refl, ap, ◌∙◌, not-suc-le-zero, arith, length-drop, take_all, drop-drop}
use Rattle.std.proofs.lemmas.List.{length-append, drop-append-le, take-append-le, take-append-drop, append_assoc}
use Rattle.std.proofs.Math.Seq.{drop-append_seam}
use Rattle.std.specs.Int.{w32, rotate_left}
use Rattle.fields.specs.LittleEndian.{le_at}
use Rattle.checksum.specs.declared.Words.{Words}
use Rattle.checksum.specs.Lookup3.{rotated, blocks, hashlittle, seed, seeded, mixed, added, final_mixed}

-- rotated left, by less than a word
pub rotate_is : (x k : ℕ) → 0 < k → k < 32 → rotate_left w32 x k ≡ rotated x k
unfolding rotated
rotate_is x k p q =
    let e : k % 32 ≡ k = omega arith in
    let d : (32 - k) % 32 ≡ 32 - k = omega arith in
    rw (e, d) refl

-- the sum of three in two steps, the length modulo 2 ^ 32
pub seed_mod : (n i : ℕ) → ((0xdead_beef + n % 0x1_0000_0000) % 2 ^ 32 + i) % 2 ^ 32 ≡ seed n i
seed_mod n i = omega arith

pub of_none : (s : List ℕ) (i : ℕ) → length s ≡ 0 → seed (length s) i ≡ hashlittle s i
unfolding hashlittle
of_none [] i e = refl
of_none (x ∷ s) i e = absurd (omega arith)

-- before the first block
pub begun : (s : List ℕ) (i : ℕ) → 0 < length s → blocks ((length s - 1) / 12) (seeded (seed (length s) i)) s ≡ hashlittle s i
unfolding hashlittle
begun [] i h = absurd (not-suc-le-zero h)
begun (x ∷ s) i h = ap (λ (n : ℕ). blocks (n / 12) (seeded (seed (length (x ∷ s)) i)) (x ∷ s)) (omega arith)

-- the hash from the words w and the bytes l that are left
abbrev pub hash_from : List ℕ → Words → ℕ
hash_from l w = blocks ((length l - 1) / 12) w l

pub opened : (s : List ℕ) (i : ℕ) → 0 < length s → (w : Words) → w ≡ seeded (seed (length s) i) → hash_from s w ≡ hashlittle s i
opened s i h w is = rw is (begun s i h)

-- one block more
pub turned : (l : List ℕ) (w v : Words) → 12 < length l → v ≡ mixed (added w l) → hash_from (drop 12 l) v ≡ hash_from l w
unfolding blocks
turned l w v h is =
    let e : (length l - 1) / 12 ≡ suc ((length l - 12 - 1) / 12) = omega arith in
    rw (is, length-drop 12 l, e)

-- the tail
pub ended : (l : List ℕ) (w v : Words) → length l ≤ 12 → v ≡ final_mixed (added w l) → v.c ≡ hash_from l w
unfolding blocks
ended l w v h is =
    let e : (length l - 1) / 12 ≡ 0 = omega arith in
    rw (is, e)

-- ---- by an index: what is left is the part of s from `at` on

module _ (s : List ℕ) (at : ℕ) (w v : Words) where
  -- a part that goes to the end of the whole
  rest : take (length s - at) (drop at s) ≡ drop at s
  rest = take_all (length s - at) (drop at s) (rw length-drop (omega arith))

  pub turned_at : 12 < length s - at → v ≡ mixed (added w (take (length s - at) (drop at s))) → hash_from (drop (at + 12) s) v ≡ hash_from (drop at s) w
  turned_at h is = ap (λ (l : List ℕ). hash_from l v) (sym (drop-drop 12 at s)) ∙ turned (drop at s) w v (rw length-drop h) (is ∙ ap (λ (l : List ℕ). mixed (added w l)) rest)

  pub ended_at : length s - at ≤ 12 → v ≡ final_mixed (added w (take (length s - at) (drop at s))) → v.c ≡ hash_from (drop at s) w
  ended_at h is = ended (drop at s) w v (rw length-drop h) (is ∙ ap (λ (l : List ℕ). final_mixed (added w l)) rest)

-- ---- by blocks: whole blocks b are left, and l after them

-- both parts of a slice
pub of_parts : (s b l : List ℕ) (n : ℕ) (w : Words) → b ≡ take n s → l ≡ drop n s → hash_from (b ++ l) w ≡ hash_from s w
of_parts s b l n w e d = rw (e, d, take-append-drop n s)

-- a block's words, whatever follows it
read_front : (x l : List ℕ) (pos : ℕ) → pos + 4 ≤ length x → le_at (x ++ l) pos 4 ≡ le_at x pos 4
unfolding le_at
read_front x l pos h = rw (drop-append-le pos x l (omega arith), take-append-le 4 (drop pos x) l (rw length-drop (omega arith)))

of_block : (w : Words) (x l : List ℕ) → length x ≡ 12 → added w (x ++ l) ≡ added w x
unfolding added
of_block w x l e = rw (read_front x l 0 (omega arith), read_front x l 4 (omega arith), read_front x l 8 (omega arith))

-- the block x is the first, and c the others
pub passed : (b x c l : List ℕ) (w v : Words) → b ≡ x ++ c → length x ≡ 12 → 0 < length l → v ≡ mixed (added w x) → hash_from (c ++ l) v ≡ hash_from (b ++ l) w
passed b x c l w v e h t is =
    let d : drop 12 (x ++ (c ++ l)) ≡ c ++ l = ap (λ (n : ℕ). drop n (x ++ (c ++ l))) (sym h) ∙ drop-append_seam x (c ++ l) in
    let m : 12 < length (x ++ (c ++ l)) = rw (length-append x (c ++ l), length-append c l) (omega arith) in
    rw (e, append_assoc x c l) (ap (λ (k : List ℕ). hash_from k v) (sym d) ∙ turned (x ++ (c ++ l)) w v m (is ∙ ap mixed (sym (of_block w x (c ++ l) h))))

-- whole blocks that are shorter than one are none
none_left : (b l : List ℕ) → length b % 12 ≡ 0 → length b < 12 → b ++ l ≡ l
none_left [] l e h = refl
none_left (x ∷ b) l e h = absurd (omega arith)

pub rested : (s b l : List ℕ) (w : Words) (i : ℕ) → hash_from (b ++ l) w ≡ hashlittle s i → length b % 12 ≡ 0 → length b < 12 → hash_from l w ≡ hashlittle s i
rested s b l w i is e h = ap (λ (k : List ℕ). hash_from k w) (sym (none_left b l e h)) ∙ is
