-- Laws of storing a number's bytes, and of reading them back. Assumes nothing.
use mathlib.Core.Path.{◌≡◌, refl, ap, ◌∙◌}
use mathlib.Core.List.{List, ◌++◌, append_assoc}
use Prim.Native.Nat.{ℕ, zero, suc, ◌+◌, ◌-◌, ◌*◌, ◌/◌, ◌%◌, ◌^◌, ◌<◌, ◌≤◌}
use native.Mathlib.Nat.{mul-suc, mod-eq_of_lt}
use native.Mathlib.Omega.{arith}
use lib.ListN.{length, take, drop, set, drop_of_length-le}
use lib.Seq.{sets, sets-eq, length-take-le, take_all, take_at, drop_at}
use borrow.Rule.Slice.PartMut.{put_mid}
use Rattle.std.proofs.lemmas.Slice.{put_mid-paste}
use native.Mathlib.Numerals.{add-one}
use Rattle.std.proofs.lemmas.List.{append-nil}
use lib.Pow.{mod-pow-add}
use Rattle.fields.specs.LittleEndian.{le_value, le_at, le_bytes}

pub length_bytes : (w n : ℕ) → length (le_bytes w n) ≡ w
unfolding le_bytes
length_bytes zero n = refl
length_bytes (suc w) n = ap suc (length_bytes w (n / 256))

-- w bytes hold a number modulo 2 ^ (8 * w)
pub value_bytes : (w n : ℕ) → le_value (le_bytes w n) ≡ n % 2 ^ (8 * w)
unfolding le_value le_bytes
value_bytes zero n = omega arith
value_bytes (suc w) n = rw mul-suc (omega (arith, value_bytes w (n / 256), mod-pow-add n (8 * w) 8))

-- what is read back
module _ (s : List ℕ) (pos w n : ℕ) (room : pos + w ≤ length s) where
  pub read_back_mod : le_at (sets s pos (le_bytes w n)) pos w ≡ n % 2 ^ (8 * w)
  unfolding le_at
  read_back_mod =
      let bytes = le_bytes w n in
      let len = length_bytes w n in
      let behind = drop (pos + length bytes) s in
      let front : length (take pos s) ≡ pos = length-take-le pos s (omega arith) in
      rw (sets-eq bytes s pos (omega arith), append_assoc (take pos s) bytes behind, drop_at (take pos s) (bytes ++ behind) pos front, take_at bytes behind w len) (value_bytes w n)

  pub read_back : n < 2 ^ (8 * w) → le_at (sets s pos (le_bytes w n)) pos w ≡ n
  read_back h = read_back_mod ∙ mod-eq_of_lt h

-- one byte stored: the others go behind it
pub byte_stored : (s : List ℕ) (w i n : ℕ) → i < w → sets (set s i (n % 256)) (i + 1) (le_bytes (w - (i + 1)) (n / 256)) ≡ sets s i (le_bytes (w - i) n)
unfolding le_bytes
byte_stored s w i n h =
    let more : w - i ≡ suc (w - (i + 1)) = omega arith in
    rw (more, add-one)

-- no byte left to store
pub all_stored : (s : List ℕ) (w i n : ℕ) → w ≤ i → s ≡ sets s i (le_bytes (w - i) n)
unfolding le_bytes
all_stored s w i n h =
    let none : w - i ≡ 0 = omega arith in
    rw none

-- bytes that take all of a list
pub stored_over : (s bytes : List ℕ) → length s ≡ length bytes → sets s 0 bytes ≡ bytes
stored_over s bytes e = sets-eq bytes s 0 (omega arith) ∙ rw (drop_of_length-le s {i = 0 + length bytes} (omega arith)) (append-nil bytes)

-- .. and a part of it
pub part_stored : (s bytes : List ℕ) (pos k : ℕ) → pos + k ≤ length s → k ≡ length bytes → put_mid pos k s bytes ≡ sets s pos bytes
part_stored s bytes pos k room e =
    rw e
    (put_mid-paste pos (length bytes) s bytes bytes (length bytes) refl refl refl
    ∙ rw (take_all (length bytes) bytes (omega arith), sets-eq bytes s pos (omega arith), append_assoc (take pos s) bytes (drop (pos + length bytes) s)))
