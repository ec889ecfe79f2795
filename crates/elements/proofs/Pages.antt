-- One turn of a loop over the pages of a data block: a law for each way it can go, in the loop's own terms. Assumes
-- nothing.
use Prim.Native.Nat.{ℕ, suc, ◌+◌, ◌-◌, ◌<◌, ◌≤◌}
use mathlib.Core.Path.{◌≡◌, refl}
use mathlib.Core.Bool.{true, false}
use native.Mathlib.Omega.{arith}
use borrow.Author.Tests.{lt-ltb, le-ltb}
use Rattle.std.specs.Prelude.{Err, Ok}
use Rattle.refusal.specs.declared.Refusal.{Refusal}
use Rattle.refusal.specs.Outcome.{◌yields◌}
use Rattle.structures.specs.Structures.{Pages}
use Rattle.index.specs.Index.{Listing}
use Rattle.elements.specs.Elements.{Elements}
use Rattle.elements.specs.Runs.{elements_from, pages_from}

module _ (es : Elements) (g : Pages) (n p s : ℕ) (rest : Listing) where
  abbrev next_page : Listing
  next_page = pages_from es g (n - (p + 1)) (p + 1) (s + g.size) rest

  pub pages_none : n ≤ p → pages_from es g (n - p) p s rest ≡ rest
  unfolding pages_from
  pages_none h = let z : n - p ≡ 0 = omega arith in rw z refl

  module _ (h : p < n) where
    abbrev less : n - p ≡ suc (n - (p + 1))
    less = omega arith

    pub pages_clear : g.set p ≡ false → pages_from es g (n - p) p s rest ≡ next_page
    unfolding pages_from
    pages_clear b = rw (less, b) refl

    module _ (b : g.set p ≡ true) where
      pub pages_refused : (r : Refusal) → g.test p ≡ Err r → pages_from es g (n - p) p s rest ≡ Err r
      unfolding pages_from ◌yields◌
      pages_refused r t = rw (less, b, t) refl

      module _ (t : g.test p ≡ Ok tt) where
        -- a page that runs past the count ends its block
        pub pages_last : es.count < s + g.size → pages_from es g (n - p) p s rest ≡ elements_from es (g.position p) g.size s rest
        unfolding pages_from ◌yields◌
        pages_last e = rw (less, b, t, lt-ltb es.count (s + g.size) e) refl

        pub pages_set : s + g.size ≤ es.count → pages_from es g (n - p) p s rest ≡ elements_from es (g.position p) g.size s next_page
        unfolding pages_from ◌yields◌
        pages_set e = rw (less, b, t, le-ltb es.count (s + g.size) e) refl
