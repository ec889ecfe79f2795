-- Laws of an input's line and file. Assumes nothing.
use mathlib.Core.Path.{◌≡◌, refl, ap}
use mathlib.Core.Bool.{true, false, ◌&&◌, and-false}
use mathlib.Core.List.{List}
use Prim.Native.Nat.{ℕ, ◌≤◌, ◌<◌}
use native.Mathlib.Omega.{arith}
use lib.ListN.{length, length-take}
use lib.Dec.{leb, ltb}
use borrow.Author.Tests.{lt-ltb, le-ltb, le-leb, lt-leb, leb-true}
use Rattle.refusal.proofs.Tests.{both}
use Rattle.questions.specs.Text.{before}
use Rattle.questions.specs.Line.{line_of, file_of, fits}
use Rattle.questions.proofs.Words.{take-before}

module _ (s : List ℕ) where
  pub line_within : length (line_of s) ≤ length s
  unfolding line_of
  line_within =
      let part = ap (λ (l : List ℕ). length l) (take-before 10 s) in
      omega (arith, part, length-take (length (before 10 s)) s)

  pub line_unended : length (line_of s) ≡ length s → fits s ≡ false
  unfolding fits
  line_unended e = rw (le-ltb (length (line_of s)) (length s) (omega arith)) refl

  pub line_long : 4095 < length (line_of s) → fits s ≡ false
  unfolding fits
  line_long h = rw (lt-leb (length (line_of s)) 4095 h, and-false (ltb (length (line_of s)) (length s))) refl

  pub file_long : 60000 < length (file_of s) → fits s ≡ false
  unfolding fits
  file_long h = rw (lt-leb (length (file_of s)) 60000 h, and-false (ltb (length (line_of s)) (length s) && leb (length (line_of s)) 4095)) refl

  pub input_fits : length (line_of s) < length s → length (line_of s) ≤ 4095 → length (file_of s) ≤ 60000 → fits s ≡ true
  unfolding fits
  input_fits a b c = rw (lt-ltb _ _ a, le-leb _ _ b, le-leb _ _ c) refl

  pub line_short : fits s ≡ true → length (line_of s) ≤ 4095
  unfolding fits
  line_short t =
      let ended = ltb (length (line_of s)) (length s) in
      let short = leb (length (line_of s)) 4095 in
      leb-true (length (line_of s)) 4095 (both ended short (both (ended && short) (leb (length (file_of s)) 60000) t).0).1
