-- One induction over runs of elements and over pages: a relation of listings that each step of a walk keeps holds of
-- the whole walk, where it holds of what is walked behind it. Assumes nothing.
use Prim.Native.Nat.{ℕ, zero, suc, ◌+◌, ◌*◌, ◌<◌, ◌≤◌}
use mathlib.Core.Path.{◌≡◌, refl, sym, ap, subst, ◌∙◌}
use mathlib.Core.Bool.{Bool, true, false, not, cond}
use mathlib.Core.Logic.{⊎_elim}
use native.Mathlib.Omega.{arith}
use native.Mathlib.Nat.{mul-le-mul_right}
use borrow.Author.Tests.{leb-true, leb-false, ltb-true, not-true, not-false}
use lib.Dec.{leb, ltb}
use Rattle.std.specs.Prelude.{Ok}
use Rattle.refusal.specs.Refusals.{Checked}
use Rattle.refusal.specs.Outcome.{◌yields◌}
use Rattle.refusal.proofs.Tests.{lt_or_ge}
use Rattle.structures.specs.Structures.{Pages}
use Rattle.element_form.specs.Form.{stride}
use Rattle.index.specs.Index.{Listing}
use Rattle.index.proofs.Steps.{first, others, first_slot_lem, other_slots}
use Rattle.elements.specs.Elements.{Elements, element}
use Rattle.elements.specs.Runs.{also_element, elements_from, pages_from}

-- `R s x y` relates two listings that begin at slot s, `Has s pos` says that slot s has its element at pos, `Lacks s`
-- that it has none, and `Tests t` that the walk makes the test t. Each step keeps R:
pub record Steps (e : Elements) (Has : ℕ → ℕ → Type 0) (Lacks : ℕ → Type 0) (Tests : Checked → Type 0) (R : ℕ → Listing → Listing → Type 0) : Type 0 where
  -- from the published count on all slots are alike,
  pub past : (s s' : ℕ) (x y : Listing) → e.count ≤ s → e.count ≤ s' → R s' x y → R s x y
  -- a slot without an element gives nothing,
  pub lack : (s : ℕ) (x y : Listing) → s < e.count → Lacks s → R (s + 1) x y → R s x y
  -- an element stands in front of what is left,
  pub has : (s pos : ℕ) (x y : Listing) → s < e.count → Has s pos → R (s + 1) x y
      → R s (also_element (element e pos s) x) (also_element (element e pos s) y)
  -- and what is behind a test counts only where it is passed.
  pub test : (t : Checked) (s : ℕ) (x y : Listing) → Tests t → (t ≡ Ok tt → R s x y) → R s (t yields x) (t yields y)

-- by whether a Boolean is true, on both sides
pub by_conds : {A : Type 0} (R : A → A → Type 0) (t : Bool) {x y x' y' : A} → (t ≡ true → R x x') → (t ≡ false → R y y') → R (cond t x y) (cond t x' y')
by_conds R true f g = f refl
by_conds R false f g = g refl

-- n pages, whose slots begin at s: those of a clear page have no element, those of a set one that has passed its test
-- the page's elements
pub record PagesAt (Has : ℕ → ℕ → Type 0) (Lacks : ℕ → Type 0) (st : ℕ) (g : Pages) (n s : ℕ) : Type 0 where
  pub clear : (p i : ℕ) → p < n → i < g.size → g.set p ≡ false → Lacks (s + (p * g.size + i))
  pub set : (p i : ℕ) → p < n → i < g.size → g.set p ≡ true → g.test p ≡ Ok tt → Has (s + (p * g.size + i)) (g.position p + i * st)

module _ {e : Elements} {Has : ℕ → ℕ → Type 0} {Lacks : ℕ → Type 0} {Tests : Checked → Type 0} {R : ℕ → Listing → Listing → Type 0}
    (k : Steps e Has Lacks Tests R) where
  abbrev st : ℕ
  st = stride e.form

  pub at_slot : (s s' : ℕ) (x y : Listing) → s ≡ s' → R s x y → R s' x y
  at_slot s s' x y q r = subst (λ (t : ℕ). R t x y) q r

  -- j slots without an element
  pub lacks_kept : (j s : ℕ) (x y : Listing) → ((i : ℕ) → i < j → Lacks (s + i)) → R (s + j) x y → R s x y
  lacks_kept zero s x y p r = at_slot (s + 0) s x y (let z : s + 0 ≡ s = omega arith in z) r
  lacks_kept (suc j) s x y p r =
      ⊎_elim
      (λ (lt : s < e.count).
      k.lack s x y lt (first_slot_lem Lacks s j p)
      (lacks_kept j (s + 1) x y (other_slots Lacks s j p) (at_slot (s + suc j) (s + 1 + j) x y (let z : s + suc j ≡ s + 1 + j = omega arith in z) r)))
      (λ (ge : e.count ≤ s). k.past s (s + suc j) x y ge (omega arith) r)
      (lt_or_ge s e.count)

  -- the elements of j slots
  pub elements_kept : (j pos s : ℕ) (x y : Listing) → ((i : ℕ) → i < j → Has (s + i) (pos + i * st)) → R (s + j) x y
      → R s (elements_from e pos j s x) (elements_from e pos j s y)
  unfolding elements_from
  elements_kept zero pos s x y p r = at_slot (s + 0) s x y (let z : s + 0 ≡ s = omega arith in z) r
  elements_kept (suc j) pos s x y p r =
      let again = elements_kept j (pos + st) (s + 1) x y (others Has s pos st j p)
      (at_slot (s + suc j) (s + 1 + j) x y (let z : s + suc j ≡ s + 1 + j = omega arith in z) r) in
      by_conds (R s) (leb e.count s)
      (λ t. let h = leb-true e.count s t in k.past s (s + suc j) x y h (omega arith) r)
      (λ t. k.has s pos _ _ (leb-false _ _ t) (first Has s pos st j p) again)

  -- the pages of a data block
  module _ (g : Pages) (n s : ℕ) (h : PagesAt Has Lacks (stride e.form) g n s) (tests : (p : ℕ) → p < n → g.set p ≡ true → Tests (g.test p)) (x y : Listing)
      (r : R (s + n * g.size) x y) where
    from_kept : (j p s' : ℕ) → p + j ≡ n → s' ≡ s + p * g.size → R s' (pages_from e g j p s' x) (pages_from e g j p s' y)
    unfolding pages_from
    from_kept zero p s' hp q =
        let z : n ≡ p = omega arith in
        at_slot _ s' x y (ap (λ (m : ℕ). s + m * g.size) z ∙ sym q) r
    from_kept (suc j) p s' hp q =
        let lt : p < n = omega arith in
        let next = from_kept j (p + 1) (s' + g.size) (omega arith) (more q) in
        by_conds (R s') (not (g.set p))
        (λ b. lacks_kept g.size s' _ _ (λ i hi. subst Lacks (at i q) (h.clear p i lt hi (not-true _ b))) next)
        (λ b. k.test (g.test p) s' _ _ (tests p lt (not-false _ b)) (λ t.
        elements_kept g.size (g.position p) s' _ _
        (λ i hi. subst (λ (m : ℕ). Has m (g.position p + i * st)) (at i q) (h.set p i lt hi (not-false _ b) t))
        (by_conds (R (s' + g.size)) (ltb e.count (s' + g.size))
        (λ o. let z = ltb-true e.count (s' + g.size) o in k.past (s' + g.size) _ x y (omega arith) (end lt q z) r)
        (λ o. next))))
      where
        more : s' ≡ s + p * g.size → s' + g.size ≡ s + (p + 1) * g.size
        more q = omega arith

        at : (i : ℕ) → s' ≡ s + p * g.size → s + (p * g.size + i) ≡ s' + i
        at i q = omega arith

        end : p < n → s' ≡ s + p * g.size → e.count < s' + g.size → e.count ≤ s + n * g.size
        end lt q z = let m = mul-le-mul_right {m = p + 1} {n = n} g.size (omega arith) in omega arith

    pub pages_kept : R s (pages_from e g n 0 s x) (pages_from e g n 0 s y)
    pages_kept = from_kept n 0 s (omega arith) (omega arith)
