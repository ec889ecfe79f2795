-- Laws of a field's test and of what it holds. Assumes nothing.
use mathlib.Core.Path.{◌≡◌, ap, sym}
use mathlib.Core.Bool.{true, false, not}
use mathlib.Core.List.{List}
use mathlib.Core.Logic.{⊎_elim}
use Prim.Native.Nat.{ℕ, ◌+◌, ◌^◌, ◌<◌, ◌≤◌}
use native.Mathlib.Omega.{arith}
use lib.ListN.{length}
use borrow.Author.Tests.{lt-ltb, le-ltb, ltb-false, not-false}
use Rattle.std.specs.Prelude.{Err, None, Ok, Some}
use Rattle.refusal.specs.declared.Refusal.TheVariants.{OffsetSize, PastEnd, SizeField}
use Rattle.refusal.specs.declared.Refusal.{Refusal}
use Rattle.refusal.specs.Refusals.{figure, largest64}
use Rattle.refusal.proofs.Outcomes.{value_is, refused_is, yields_passed, yields_refused}
use Rattle.fields.specs.Fields.{is_width, width_test, in_file, undefined, address_at, undefined_at}
use Rattle.fields.specs.Values.{field_test, size_field_test, offset_field, optional_offset_field}
use Rattle.refusal.proofs.Tests.{lt_or_ge, refuse_false, refuse_true, refuse_inv, then_second, then_first}

module _ (s : List ℕ) (pos len : ℕ) where
  pub in_file_lem : pos + len ≤ length s → Ok tt ≡ in_file s pos len
  unfolding in_file
  in_file_lem h = refuse_false (PastEnd (figure (pos + len)) (length s)) _ (le-ltb (length s) (pos + len) h)

  pub past_end : length s < pos + len → Err (PastEnd (figure (pos + len)) (length s)) ≡ in_file s pos len
  unfolding in_file
  past_end h = refuse_true (PastEnd (figure (pos + len)) (length s)) _ (lt-ltb (length s) (pos + len) h)

  pub inside : Ok tt ≡ in_file s pos len → pos + len ≤ length s
  unfolding in_file
  inside h = ltb-false (length s) (pos + len) (refuse_inv (PastEnd (figure (pos + len)) (length s)) _ (sym h))

module _ (wrong : Refusal) (w : ℕ) where
  pub width_passed : is_width w ≡ true → Ok tt ≡ width_test wrong w
  unfolding width_test
  width_passed e = refuse_false wrong _ (ap not e)

  pub width_refused : is_width w ≡ false → Err wrong ≡ width_test wrong w
  unfolding width_test
  width_refused e = refuse_true wrong _ (ap not e)

  pub width_is : width_test wrong w ≡ Ok tt → is_width w ≡ true
  unfolding width_test
  width_is h = not-false (is_width w) (refuse_inv wrong _ h)

module _ (s : List ℕ) (pos w : ℕ) where
  pub to_eight : w ≤ 8 → in_file s pos w ≡ size_field_test s pos w
  unfolding size_field_test
  to_eight h = then_second _ (in_file s pos w) (refuse_false SizeField _ (le-ltb 8 w h))

  pub over_eight : 8 < w → Err SizeField ≡ size_field_test s pos w
  unfolding size_field_test
  over_eight h = then_first _ (in_file s pos w) (refuse_true SizeField _ (lt-ltb 8 w h))

-- an address that may be undefined, from the address that is read
module _ (s : List ℕ) (pos o : ℕ) where
  pub offset_undefined : (v : ℕ) → Ok v ≡ offset_field s pos o → undefined o v ≡ true → Ok None ≡ optional_offset_field s pos o
  unfolding offset_field optional_offset_field undefined_at
  offset_undefined v e u =
      let i = value_is (field_test (OffsetSize o) s pos o) (address_at s pos o) v e in
      let d : undefined o (address_at s pos o) ≡ true = rw i.1 at u in
      rw d (sym (yields_passed _ _ (sym i.0)))

  pub offset_defined : (v : ℕ) → Ok v ≡ offset_field s pos o → undefined o v ≡ false → Ok (Some v) ≡ optional_offset_field s pos o
  unfolding offset_field optional_offset_field undefined_at
  offset_defined v e u =
      let i = value_is (field_test (OffsetSize o) s pos o) (address_at s pos o) v e in
      let d : undefined o (address_at s pos o) ≡ false = rw i.1 at u in
      rw (i.1, d) (sym (yields_passed _ _ (sym i.0)))

  pub offset_refused : (r : Refusal) → Err r ≡ offset_field s pos o → Err r ≡ optional_offset_field s pos o
  unfolding offset_field optional_offset_field
  offset_refused r e = sym (yields_refused _ _ r (sym (refused_is (field_test (OffsetSize o) s pos o) (address_at s pos o) r e)))

-- another width has no undefined address
pub no_undefined : (o a : ℕ) → is_width o ≡ false → false ≡ undefined o a
unfolding undefined
no_undefined o a e = rw e

-- a length past 2^64 − 1 may be given as 2^64 − 1, since no slice is as long
pub figure_in_file : (s : List ℕ) (pos n : ℕ) → length s < 2 ^ 63 → in_file s pos (figure n) ≡ in_file s pos n
unfolding in_file figure
figure_in_file s pos n short =
    ⊎_elim (λ (lt : largest64 < n).
    let e : figure (pos + figure n) ≡ figure (pos + n) = omega arith in
    rw (lt-ltb (length s) (pos + figure n) (omega arith), lt-ltb (length s) (pos + n) (omega arith), e)) (λ (le : n ≤ largest64).
    let e : figure n ≡ n = omega arith in
    rw e) (lt_or_ge largest64 n)

-- .. and so may a position
pub figures_in_file : (s : List ℕ) (pos n : ℕ) → length s < 2 ^ 63 → in_file s (figure pos) (figure n) ≡ in_file s pos n
unfolding in_file figure
figures_in_file s pos n short =
    ⊎_elim (λ (lt : length s < pos + n).
    let e : figure (figure pos + figure n) ≡ figure (pos + n) = omega arith in
    rw (lt-ltb (length s) (figure pos + figure n) (omega arith), lt-ltb (length s) (pos + n) lt, e)) (λ (le : pos + n ≤ length s).
    let e : figure pos ≡ pos = omega arith in
    let d : figure n ≡ n = omega arith in
    rw (e, d)) (lt_or_ge (length s) (pos + n))
