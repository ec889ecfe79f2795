-- Runs of elements: what comes before and what is left of a list, its count, and its first element. Assumes nothing.
use Prim.Native.Nat.{ℕ, zero, suc, ◌+◌, ◌-◌, ◌*◌, ◌<◌, ◌≤◌, min}
use mathlib.Core.Path.{◌≡◌, refl, sym, ap, ◌∙◌}
use mathlib.Core.List.{List, [], ◌∷◌, ◌++◌}
use mathlib.Core.Logic.{⊎_elim}
use native.Mathlib.Omega.{arith}
use borrow.Author.Tests.{le-leb, lt-leb}
use lib.Dec.{leb}
use lib.ListN.{length}
use Rattle.std.specs.Prelude.{Err, None, Ok, Option, Some}
use Rattle.refusal.specs.Refusals.{Checked, Outcome}
use Rattle.refusal.specs.declared.Refusal.{Refusal}
use Rattle.refusal.specs.Outcome.{◌yields◌, also}
use Rattle.refusal.specs.Values.{plus, counted_of}
use Rattle.refusal.proofs.Tests.{by_cond, lt_or_ge}
use Rattle.refusal.proofs.Outcomes.{never, also_inv}
use Rattle.refusal.proofs.Counts.{counted_inv, plus-also}
use Rattle.element_form.specs.Form.{stride}
use Rattle.elements.specs.Elements.{Elements, element}
use Rattle.elements.specs.Runs.{also_element, elements_from}
use Rattle.index.specs.Index.{Rec, Listing}
use Rattle.elements.proofs.Induction.{Steps, elements_kept}

-- a listing, and another behind it
unfoldable pub prepend : List Rec → Listing → Listing
prepend [] b = b
prepend (r ∷ l) b = also r (prepend l b)

unfoldable pub behind : Listing → Listing → Listing
behind (Err r) b = Err r
behind (Ok l) b = prepend l b

also-behind : (r : Rec) (a b : Listing) → also r (behind a b) ≡ behind (also r a) b
unfolding also behind prepend
also-behind r (Err x) b = refl
also-behind r (Ok l) b = refl

element-behind : (e : Outcome (Option Rec)) (a b : Listing) → also_element e (behind a b) ≡ behind (also_element e a) b
unfolding also_element behind
element-behind (Ok None) a b = refl
element-behind (Ok (Some x)) a b = also-behind _ a b
element-behind (Err r) a b = refl

tested-behind : (t : Checked) (a b rest : Listing) → (t ≡ Ok tt → a ≡ behind b rest) → t yields a ≡ behind (t yields b) rest
unfolding ◌yields◌ behind
tested-behind (Ok tt) a b rest e = e refl
tested-behind (Err r) a b rest e = refl

-- each step of a walk keeps what comes behind it
pub behind_steps : (es : Elements) (Has : ℕ → ℕ → Type 0) (Lacks : ℕ → Type 0) (rest : Listing) → Steps es Has Lacks (λ t. Unit {0}) (λ s x y. x ≡ behind y rest)
behind_steps es Has Lacks rest = record {
  past = λ s s' x y h h' r. r;
  lack = λ s x y lt h r. r;
  has = λ s pos x y lt h r. ap (also_element (element es pos s)) r ∙ element-behind _ y rest;
  test = λ t s x y n r. tested-behind t x y rest r;
}

pub elements_behind : (es : Elements) (pos j s : ℕ) (rest : Listing) → elements_from es pos j s rest ≡ behind (elements_from es pos j s (Ok [])) rest
unfolding behind prepend
elements_behind es pos j s rest = elements_kept (behind_steps es (λ t p. Unit {0}) (λ t. Unit {0}) rest) j pos s rest (Ok []) (λ i h. tt) refl

prepend_count : (l : List Rec) (n : ℕ) (b : Listing) → plus n (prepend l b) ≡ plus (n + length l) b
unfolding prepend
prepend_count [] n b = ap (λ (k : ℕ). plus k b) (omega arith)
prepend_count (r ∷ l) n b = plus-also n r (prepend l b) ∙ prepend_count l (n + 1) b ∙ ap (λ (k : ℕ). plus k b) (omega arith)

behind_count : (a : Listing) (m : ℕ) → counted_of a ≡ Ok m → (n : ℕ) (b : Listing) → plus n (behind a b) ≡ plus (n + m) b
unfolding counted_of behind
behind_count (Err r) m h n b = let z : ◌≡◌ {A = ℕ} 0 1 = cc in absurd (omega arith)
behind_count (Ok l) m h n b = let e : length l ≡ m = cc in prepend_count l n b ∙ ap (λ (k : ℕ). plus (n + k) b) e

behind_refused : (a : Listing) (r : Refusal) → counted_of a ≡ Err r → (n : ℕ) (b : Listing) → plus n (behind a b) ≡ Err r
unfolding counted_of plus behind
behind_refused (Err x) r h n b = h
behind_refused (Ok l) r h n b = let z : ◌≡◌ {A = ℕ} 0 1 = cc in absurd (omega arith)

prepend_inv : (l₁ : List Rec) (b : Listing) (l : List Rec) → prepend l₁ b ≡ Ok l → (l₂ : List Rec) × (b ≡ Ok l₂) × (l ≡ l₁ ++ l₂)
unfolding prepend
prepend_inv [] b l h = (l, h, refl)
prepend_inv (r ∷ l₁) b l h =
    let i = also_inv r (prepend l₁ b) l h in
    let j = prepend_inv l₁ b i.0 i.1 in
    (j.0, j.1, i.2 ∙ ap (λ (m : List Rec). r ∷ m) j.2)

behind_inv : (a b : Listing) (l : List Rec) → behind a b ≡ Ok l
    → (l₁ : List Rec) × (l₂ : List Rec) × (a ≡ Ok l₁) × (b ≡ Ok l₂) × (l ≡ l₁ ++ l₂)
unfolding behind
behind_inv (Err r) b l h = absurd (never r l h)
behind_inv (Ok l₁) b l h = let i = prepend_inv l₁ b l h in (l₁, i.0, refl, i.1, i.2)

-- A run in front of what is left. Where its own listing counts m records, they are counted; ..
pub run_count : (es : Elements) (pos j s m : ℕ) → counted_of (elements_from es pos j s (Ok [])) ≡ Ok m
    → (n : ℕ) (rest : Listing) → plus n (elements_from es pos j s rest) ≡ plus (n + m) rest
run_count es pos j s m h n rest = ap (plus n) (elements_behind es pos j s rest) ∙ behind_count _ m h n rest

-- .. where it is refused, so is the whole; ..
pub run_refused : (es : Elements) (pos j s : ℕ) (r : Refusal) → counted_of (elements_from es pos j s (Ok [])) ≡ Err r
    → (n : ℕ) (rest : Listing) → plus n (elements_from es pos j s rest) ≡ Err r
run_refused es pos j s r h n rest = ap (plus n) (elements_behind es pos j s rest) ∙ behind_refused _ r h n rest

-- .. and an accepted listing is the run's own, and what is left behind it.
pub run_split : (es : Elements) (pos j s : ℕ) (rest : Listing) (l : List Rec) → elements_from es pos j s rest ≡ Ok l
    → (l₁ : List Rec) × (l₂ : List Rec) × (elements_from es pos j s (Ok []) ≡ Ok l₁) × (rest ≡ Ok l₂) × (l ≡ l₁ ++ l₂)
run_split es pos j s rest l h = behind_inv _ rest l (sym (elements_behind es pos j s rest) ∙ h)

-- A run has no more records than elements.
element-length : (e : Outcome (Option Rec)) (a : Listing) (l : List Rec) → also_element e a ≡ Ok l
    → (m : List Rec) × (a ≡ Ok m) × (length l ≤ suc (length m))
unfolding also_element
element-length (Ok None) a l h = (l, h, omega arith)
element-length (Ok (Some x)) a l h = let i = also_inv _ a l h in (i.0, i.1, omega (arith, ap length i.2))
element-length (Err r) a l h = absurd (never r l h)

pub run_length : (es : Elements) (pos j s : ℕ) (l : List Rec) → elements_from es pos j s (Ok []) ≡ Ok l → length l ≤ j
unfolding elements_from
run_length es pos zero s l h = let e : l ≡ [] = cc in rw e (omega arith)
run_length es pos (suc j) s l h =
    by_cond (λ (a : Listing). a ≡ Ok l → length l ≤ suc j) (leb es.count s)
    (λ t k. let e : l ≡ [] = cc in let z : length l ≡ 0 = ap length e in omega arith)
    (λ t k.
    let i = element-length (element es pos s) _ l k in
    let m = run_length es (pos + stride es.form) j (s + 1) i.0 i.1 in
    omega arith)
    h

-- a run counts no more records than it has elements
pub count_few : (es : Elements) (pos j s m : ℕ) → Ok m ≡ counted_of (elements_from es pos j s (Ok [])) → m ≤ j
count_few es pos j s m e = let i = counted_inv _ m e in let n = run_length es pos j s i.0 i.1 in omega (arith, i.2)

-- elements at or past the published count are none
pub run_clamp : (es : Elements) (pos n s : ℕ) (rest : Listing) → elements_from es pos n s rest ≡ elements_from es pos (min n (es.count - s)) s rest
unfolding elements_from
run_clamp es pos zero s rest = let e : min 0 (es.count - s) ≡ 0 = omega arith in rw e refl
run_clamp es pos (suc n) s rest =
    ⊎_elim
    (λ (h : s < es.count).
    let e : min (suc n) (es.count - s) ≡ suc (min n (es.count - (s + 1))) = omega arith in
    rw (e, lt-leb es.count s h) (ap (also_element (element es pos s)) (run_clamp es (pos + stride es.form) n (s + 1) rest)))
    (λ (h : es.count ≤ s).
    let e : min (suc n) (es.count - s) ≡ 0 = omega arith in
    rw (e, le-leb es.count s h) refl)
    (lt_or_ge s es.count)

-- a run in two parts
run_past : (es : Elements) (pos n s : ℕ) (rest : Listing) → es.count ≤ s → elements_from es pos n s rest ≡ rest
unfolding elements_from
run_past es pos zero s rest h = refl
run_past es pos (suc n) s rest h = rw (le-leb es.count s h) refl

pub run_part : (es : Elements) (pos m n s : ℕ) (rest : Listing)
    → elements_from es pos (m + n) s rest ≡ elements_from es pos m s (elements_from es (pos + m * stride es.form) n (s + m) rest)
unfolding elements_from
run_part es pos zero n s rest =
    let e : pos + 0 * stride es.form ≡ pos = omega arith in
    let f : s + 0 ≡ s = omega arith in
    let g : 0 + n ≡ n = omega arith in
    rw (e, f, g) refl
run_part es pos (suc m) n s rest =
    let stride = stride es.form in
    let e : pos + suc m * stride ≡ pos + stride + m * stride = omega arith in
    let f : s + suc m ≡ s + 1 + m = omega arith in
    let g : suc m + n ≡ suc (m + n) = omega arith in
    let then = run_part es (pos + stride) m n (s + 1) rest in
    ⊎_elim
    (λ (h : s < es.count). rw (e, f, g, lt-leb es.count s h) (ap (also_element (element es pos s)) then))
    (λ (h : es.count ≤ s). rw (g, le-leb es.count s h) (sym (run_past es _ n (s + suc m) rest (omega arith))))
    (lt_or_ge s es.count)

-- the first of n elements, whose slot lies below the count, and the others
pub run_first : (es : Elements) (pos n s : ℕ) (rest : Listing) → 0 < n → s < es.count
    → elements_from es pos n s rest
    ≡ also_element (element es pos s) (elements_from es (pos + stride es.form) (n - 1) (s + 1) rest)
unfolding elements_from
run_first es pos n s rest h l =
    let e : n ≡ suc (n - 1) = omega arith in
    ap (λ (j : ℕ). elements_from es pos j s rest) e ∙ rw (lt-leb es.count s l) refl
