-- Records read back from their bytes, and elements whose records fit their bytes. Assumes nothing.
use Prim.Native.Nat.{ℕ, ◌+◌, ◌-◌, ◌*◌, ◌^◌, ◌<◌, ◌≤◌}
use mathlib.Core.Path.{◌≡◌, refl, sym, ap, subst, ◌∙◌}
use mathlib.Core.Bool.{false}
use mathlib.Core.List.{List, [], ◌∷◌, ◌++◌, append_assoc}
use native.Mathlib.Nat.{mod-eq_of_lt}
use native.Mathlib.Omega.{arith}
use borrow.Author.Tests.{ltb-false}
use lib.Dec.{ltb}
use lib.ListN.{length, get_or, drop, length-append}
use lib.Pow.{pow_mono}
use lib.Seq.{sets, sets-eq, take_at, drop_at}
use Rattle.std.specs.Prelude.{Ok, Some, true}
use Rattle.refusal.specs.Refusals.{largest64}
use Rattle.refusal.proofs.Tests.{by_cond, refuse_inv, then_inv, neither}
use Rattle.fields.specs.LittleEndian.{le_at, le_bytes}
use Rattle.fields.specs.Fields.{address_at, size_test}
use Rattle.fields.proofs.Stored.{length_bytes, value_bytes}
use Rattle.fields.proofs.LittleEndian.{le_small}
use Rattle.fields.proofs.Widths.{width_le}
use Rattle.chunk_grid.specs.Grid.{any, offsets, overflows}
use Rattle.chunk_grid.specs.Values.{in_extent, offsets_of}
use Rattle.shapes.specs.Shapes.{numbers_in}
use Rattle.chunk_grid.proofs.Slots.{inside_inv}
use Rattle.element_form.specs.Form.{filtered, element_size_test}
use Rattle.element_form.proofs.Forms.{sized_width}
use Rattle.index.specs.Index.{Rec}
use Rattle.index.proofs.All.{All}
use Rattle.elements.specs.Elements.{Elements, size_at, mask_at, entry_at, entry_test, element}
use Rattle.elements.proofs.Elements.{chunk_inv}
use Rattle.records.specs.Records.{record_length, offset_bytes, record_bytes, list_bytes, record_in, records_in}
use Rattle.records.proofs.Records.{length_record, Ranked}

-- a record whose numbers fit the bytes that they are written in
pub record Fits (r : Rec) : Type 0 where
  pub address : r.entry.address < 2 ^ 64
  pub size : r.entry.size < 2 ^ 32
  pub mask : r.entry.mask < 2 ^ 32
  pub corner : overflows r.corner ≡ false

-- a number behind other bytes
number_back : (front : List ℕ) (pos w n : ℕ) (rest : List ℕ) → length front ≡ pos → n < 2 ^ (8 * w) → le_at (front ++ (le_bytes w n ++ rest)) pos w ≡ n
unfolding le_at
number_back front pos w n rest len h =
    rw (drop_at front (le_bytes w n ++ rest) pos len, take_at (le_bytes w n) rest w (length_bytes w n)) (value_bytes w n ∙ mod-eq_of_lt h)

-- a corner's offsets
offsets_back : (os rest : List ℕ) → overflows os ≡ false → numbers_in (length os) (offset_bytes os ++ rest) ≡ os
unfolding numbers_in offset_bytes overflows any
offsets_back [] rest h = refl
offsets_back (o ∷ os) rest h =
    let n = neither (ltb largest64 o) (any (ltb largest64) os) h in
    let e = append_assoc (le_bytes 8 o) (offset_bytes os) rest in
    let small : o < 2 ^ 64 = omega (arith, ltb-false largest64 o n.0) in
    rw (e, number_back [] 0 8 o (offset_bytes os ++ rest) refl small, drop_at (le_bytes 8 o) (offset_bytes os ++ rest) 8 (length_bytes 8 o), offsets_back os rest n.1) refl

module _ (r : Rec) (rest : List ℕ) where
  abbrev a : List ℕ
  a = le_bytes 8 r.entry.address

  abbrev b : List ℕ
  b = le_bytes 4 r.entry.size

  abbrev m : List ℕ
  m = le_bytes 4 r.entry.mask

  abbrev o : List ℕ
  o = offset_bytes r.corner

  bytes_are : record_bytes r ++ rest ≡ ((a ++ b) ++ m) ++ (o ++ rest)
  unfolding record_bytes
  bytes_are = append_assoc ((a ++ b) ++ m) o rest

  bytes_mask : record_bytes r ++ rest ≡ (a ++ b) ++ (m ++ (o ++ rest))
  bytes_mask = bytes_are ∙ append_assoc (a ++ b) m (o ++ rest)

  bytes_size : record_bytes r ++ rest ≡ a ++ (b ++ (m ++ (o ++ rest)))
  bytes_size = bytes_mask ∙ append_assoc a b (m ++ (o ++ rest))

  length_two : length (a ++ b) ≡ 12
  length_two = simp (length-append, length_bytes) refl

  length_three : length ((a ++ b) ++ m) ≡ 16
  length_three = simp (length-append, length_bytes) refl

  module _ (f : Fits r) where
    record_back : record_in (length r.corner) (record_bytes r ++ rest) ≡ r
    unfolding record_in
    record_back =
        let p = ap (λ (s : List ℕ). le_at s 0 8) bytes_size ∙ number_back [] 0 8 r.entry.address (b ++ (m ++ (o ++ rest))) refl f.address in
        let q = ap (λ (s : List ℕ). le_at s 8 4) bytes_size ∙ number_back a 8 4 r.entry.size (m ++ (o ++ rest)) (length_bytes 8 r.entry.address) f.size in
        let t = ap (λ (s : List ℕ). le_at s 12 4) bytes_mask ∙ number_back (a ++ b) 12 4 r.entry.mask (o ++ rest) length_two f.mask in
        let u = ap (λ (s : List ℕ). numbers_in (length r.corner) (drop 16 s)) bytes_are
        ∙ ap (numbers_in (length r.corner)) (drop_at ((a ++ b) ++ m) (o ++ rest) 16 length_three) ∙ offsets_back r.corner rest f.corner in
        rw (p, q, t, u) refl

-- a list's records
records_back : (rank : ℕ) (l : List Rec) (rest : List ℕ) → Ranked rank l → All Fits l → records_in rank (length l) (list_bytes l ++ rest) ≡ l
unfolding records_in list_bytes All
records_back rank [] rest k f = refl
records_back rank (r ∷ l) rest k f =
    let e = append_assoc (record_bytes r) (list_bytes l) rest in
    let p = ap (λ (n : ℕ). record_in n (record_bytes r ++ (list_bytes l ++ rest))) (sym k.0) ∙ record_back r (list_bytes l ++ rest) f.0 in
    let q = drop_at (record_bytes r) (list_bytes l ++ rest) (record_length rank) (length_record r ∙ ap record_length k.0) in
    rw (e, p, q, records_back rank l rest k.1 f.1) refl

-- what a lent list holds whose first bytes they are
pub list_back : (rank : ℕ) (l : List Rec) (out : List ℕ) → Ranked rank l → All Fits l → length (list_bytes l) ≤ length out
    → records_in rank (length l) (sets out 0 (list_bytes l)) ≡ l
list_back rank l out k f le = ap (records_in rank (length l)) (sets-eq (list_bytes l) out 0 (omega arith)) ∙ records_back rank l (drop (0 + length (list_bytes l)) out) k f

-- an element that holds a chunk has such a record
module _ (es : Elements) (bytes : (i : ℕ) → get_or es.file i 0 < 256) (pos s : ℕ) where
  mask_small : mask_at es pos < 2 ^ 32
  unfolding mask_at
  mask_small = by_cond (λ (n : ℕ). n < 2 ^ 32) (filtered es.form) (λ t. le_small es.file bytes 4 _) (λ t. omega arith)

  entry_fits : element_size_test es.form ≡ Ok tt → offsets_of (in_extent es.grid s) ≡ Ok true → entry_test es pos ≡ Ok tt
      → Fits (record { entry = entry_at es pos; corner = offsets es.grid s })
  unfolding entry_at entry_test size_test address_at
  entry_fits t i e =
      let o = es.form.offset_size in
      let w = width_le _ (sized_width es.form t) in
      let big : 2 ^ (8 * o) ≤ 2 ^ 64 = pow_mono {j = 64} (omega arith) in
      let n = ltb-false (2 ^ 32 - 1) (size_at es pos) (refuse_inv _ _ (then_inv _ _ e).1) in
      record {
        address = omega (arith, big, le_small es.file bytes o pos);
        size = omega (arith, n);
        mask = mask_small;
        corner = (inside_inv _ s i).1;
      }

  pub element-fits : (r : Rec) → element es pos s ≡ Ok (Some r) → Fits r
  element-fits r h = let i = chunk_inv es pos s r h in subst Fits (sym i.3) (entry_fits i.0 i.1 i.2)
