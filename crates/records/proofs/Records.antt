-- The bytes of records: how many they are, and how they are stored one behind the other. Assumes nothing.
use Prim.Native.Nat.{ℕ, suc, ◌+◌, ◌*◌, ◌<◌, ◌≤◌}
use mathlib.Core.Path.{◌≡◌, refl, sym, ap, ◌∙◌}
use mathlib.Core.List.{List, [], ◌∷◌, ◌++◌, append_assoc}
use native.Mathlib.Numerals.{add-one}
use native.Mathlib.Omega.{arith}
use lib.ListN.{length, get_or, drop, set, length-append, drop_of_length-le}
use lib.Seq.{sets, drop-cons, get_or-set_same, get_or-set_other}
use Rattle.fields.specs.LittleEndian.{le_bytes}
use Rattle.fields.proofs.Stored.{length_bytes}
use Rattle.index.specs.Index.{Rec}
use Rattle.index.proofs.All.{All}
use Rattle.records.specs.Records.{record_length, offset_bytes, record_bytes, list_bytes}

-- one run of stores behind another
pub sets_append : (l : List ℕ) (i : ℕ) (a b : List ℕ) → sets l i (a ++ b) ≡ sets (sets l i a) (i + length a) b
sets_append l i [] b = let e : i + 0 ≡ i = omega arith in rw e refl
sets_append l i (x ∷ a) b =
    let e : i + suc (length a) ≡ suc i + length a = omega arith in
    rw e (sets_append (set l i x) (suc i) a b)

-- the first is w bytes of a number
pub sets_bytes : (l : List ℕ) (i w n : ℕ) (b : List ℕ) → sets l i (le_bytes w n ++ b) ≡ sets (sets l i (le_bytes w n)) (i + w) b
sets_bytes l i w n b = sets_append l i (le_bytes w n) b ∙ ap (λ (k : ℕ). sets (sets l i (le_bytes w n)) (i + k) b) (length_bytes w n)

-- lengths
pub length_corner : (os : List ℕ) → length (offset_bytes os) ≡ 8 * length os
unfolding offset_bytes
length_corner [] = refl
length_corner (o ∷ os) = rw (length-append, length_bytes, length_corner os) (omega arith)

pub length_record : (r : Rec) → length (record_bytes r) ≡ record_length (length r.corner)
unfolding record_bytes record_length
length_record r = simp (length-append, length_bytes, length_corner) (omega arith)

-- a list's bytes, in two parts
pub list_append : (l m : List Rec) → list_bytes (l ++ m) ≡ list_bytes l ++ list_bytes m
unfolding list_bytes
list_append [] m = refl
list_append (r ∷ l) m = ap (λ (b : List ℕ). record_bytes r ++ b) (list_append l m) ∙ sym (append_assoc (record_bytes r) (list_bytes l) (list_bytes m))

-- every record's corner has `rank` members
abbrev pub Ranked : ℕ → List Rec → Type 0
Ranked rank = All (λ (r : Rec). length r.corner ≡ rank)

pub length-list : (rank : ℕ) (l : List Rec) → Ranked rank l → length (list_bytes l) ≡ length l * record_length rank
unfolding list_bytes All
length-list rank [] h = omega arith
length-list rank (r ∷ l) h = rw (length-append, length_record r, h.0, length-list rank l h.1) (omega arith)

-- offset i of a corner stored: the others go behind it
module _ (corner : List ℕ) (at : ℕ) where
  pub offset_stored : (out : List ℕ) (i : ℕ) → i < length corner → (v : ℕ) → v ≡ get_or corner i 0
      → sets (sets out (at + 8 * i) (le_bytes 8 v)) (at + 8 * (i + 1)) (offset_bytes (drop (i + 1) corner)) ≡ sets out (at + 8 * i) (offset_bytes (drop i corner))
  unfolding offset_bytes
  offset_stored out i h v q =
      let d : drop i corner ≡ v ∷ drop (i + 1) corner = rw (q, add-one) (drop-cons corner i 0 h) in
      let e : at + 8 * (i + 1) ≡ at + 8 * i + 8 = omega arith in
      rw (d, e) (sym (sets_bytes out (at + 8 * i) 8 v _))

  -- none is left
  pub offsets-stored : (out : List ℕ) (i : ℕ) → length corner ≤ i → out ≡ sets out (at + 8 * i) (offset_bytes (drop i corner))
  unfolding offset_bytes
  offsets-stored out i h = rw (drop_of_length-le corner {i = i} h) refl

-- a corner whose offset in one dimension is another
module _ (offsets : List ℕ) (dim offset : ℕ) where
  pub set_here : (i : ℕ) → i < length offsets → i ≡ dim → offset ≡ get_or (set offsets dim offset) i 0
  set_here i h e = rw e (sym (get_or-set_same offsets dim offset 0 (omega arith)))

  pub set_elsewhere : (i : ℕ) → (i ≡ dim → ⊥) → get_or offsets i 0 ≡ get_or (set offsets dim offset) i 0
  set_elsewhere i n = sym (get_or-set_other offsets dim i offset 0 n)

-- a record, field by field
pub record_stored : (out : List ℕ) (at : ℕ) (r : Rec)
    → sets (sets (sets (sets out at (le_bytes 8 r.entry.address)) (at + 8) (le_bytes 4 r.entry.size)) (at + 12) (le_bytes 4 r.entry.mask)) (at + 16) (offset_bytes r.corner)
    ≡ sets out at (record_bytes r)
unfolding record_bytes
record_stored out at r =
    let e : at + 12 ≡ at + 8 + 4 = omega arith in
    let f : at + 16 ≡ at + 8 + 4 + 4 = omega arith in
    let a = le_bytes 8 r.entry.address in
    let b = le_bytes 4 r.entry.size in
    let d = le_bytes 4 r.entry.mask in
    let o = offset_bytes r.corner in
    rw (e, f, append_assoc (a ++ b) d o, append_assoc a b (d ++ o))
    (sym (sets_bytes out at 8 r.entry.address (b ++ (d ++ o)) ∙ sets_bytes (sets out at a) (at + 8) 4 r.entry.size (d ++ o) ∙ sets_bytes (sets (sets out at a) (at + 8) b) (at + 8 + 4) 4 r.entry.mask o))
