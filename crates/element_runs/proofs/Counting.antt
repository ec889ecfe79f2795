-- The loops that count a run: what is counted and what is left make the whole. Assumes nothing.
use Prim.Native.Nat.{ℕ, ◌+◌, ◌-◌, ◌*◌, ◌<◌, ◌≤◌}
use mathlib.Core.Path.{◌≡◌, refl, sym, ap, ◌∙◌}
use mathlib.Core.Bool.{true, false}
use mathlib.Core.List.{List, []}
use native.Mathlib.Omega.{arith}
use lib.ListN.{length}
use Rattle.refusal.proofs.Tests.{false_true}
use Rattle.std.specs.Option.{is_some}
use Rattle.std.specs.Prelude.{Err, None, Ok, Option, Some}
use Rattle.refusal.specs.Refusals.{Outcome}
use Rattle.refusal.specs.declared.Refusal.{Refusal}
use Rattle.refusal.specs.Values.{plus, counted_of}
use Rattle.refusal.specs.Outcome.{also}
use Rattle.refusal.proofs.Counts.{plus_zero, plus_none}
use Rattle.element_form.specs.Form.{stride}
use Rattle.index.specs.declared.Entry.{Entry}
use Rattle.index.specs.Index.{Rec, Listing}
use Rattle.elements.specs.Elements.{Elements, element}
use Rattle.elements.specs.Runs.{also_element, elements_from}
use Rattle.elements.specs.Values.{found_of}
use Rattle.elements.proofs.Answers.{found_refused, found_absent, found_chunk}
use Rattle.elements.proofs.Turns.{lie_behind}
use Rattle.elements.proofs.Runs.{run_part, run_count, run_refused, run_length, run_first}

-- a run counts no more records than elements
counted_few : (a : Listing) (k m : ℕ) → Ok k ≡ counted_of a → ((l : List Rec) → a ≡ Ok l → length l ≤ m) → k ≤ m
unfolding counted_of
counted_few (Ok l) k m e h = let f : k ≡ length l = cc in omega (arith, h l refl)
counted_few (Err r) k m e h = let z : ◌≡◌ {A = ℕ} 0 1 = cc in absurd (omega arith)

-- of n elements from pos on `count` are counted among those that are passed; `left` are left, from `at` and slot `here`
-- on
pub record Counting (es : Elements) (pos n slot at left here count : ℕ) : Type 0 where
  pub lie : at + left * stride es.form ≤ length es.file
  pub last : here + left ≡ slot + n
  pub few : count + left ≤ n
  pub whole : plus count (elements_from es at left here (Ok [])) ≡ counted_of (elements_from es pos n slot (Ok []))

pub counting_first : (es : Elements) (pos n slot : ℕ) → pos + n * stride es.form ≤ length es.file → Counting es pos n slot pos n slot 0
counting_first es pos n slot l = record { lie = l; last = refl; few = omega arith; whole = plus_zero _ }

module _ {es : Elements} {pos n slot at left here count : ℕ} (c : Counting es pos n slot at left here count) where
  pub counting_done : left ≤ 0 → Ok count ≡ counted_of (elements_from es pos n slot (Ok []))
  unfolding elements_from
  counting_done h = let e : left ≡ 0 = omega arith in sym (plus_none count _ (rw e refl)) ∙ c.whole

  -- what is left is refused
  pub counting_stop : (r : Refusal) → elements_from es at left here (Ok []) ≡ Err r → Err r ≡ counted_of (elements_from es pos n slot (Ok []))
  unfolding plus
  counting_stop r e = let w = c.whole in rw e at w

  module _ (m : ℕ) (h : m ≤ left) where
    parted : plus count (elements_from es at m here (elements_from es (at + m * stride es.form) (left - m) (here + m) (Ok [])))
        ≡ counted_of (elements_from es pos n slot (Ok []))
    parted =
        let e : m + (left - m) ≡ left = omega arith in
        ap (plus count) (sym (run_part es at m (left - m) here (Ok [])) ∙ ap (λ (j : ℕ). elements_from es at j here (Ok [])) e) ∙ c.whole

    -- so are its first m elements
    pub counting_refused : (r : Refusal) → Err r ≡ counted_of (elements_from es at m here (Ok [])) → Err r ≡ counted_of (elements_from es pos n slot (Ok []))
    counting_refused r e = sym (run_refused es at m here r (sym e) count _) ∙ parted

    -- m elements are passed, and k records of them counted
    pub counting_pass : (k : ℕ) → Ok k ≡ counted_of (elements_from es at m here (Ok []))
        → Counting es pos n slot (at + m * stride es.form) (left - m) (here + m) (count + k)
    counting_pass k e =
        record {
          lie = lie_behind _ _ _ _ _ h c.lie;
          last = omega (arith, c.last);
          few = omega (arith, c.few, counted_few _ k m e (run_length es at m here));
          whole = sym (run_count es at m here k (sym e) count _) ∙ parted;
        }

    -- .. and none, where they hold no chunk
    pub counting_gap : elements_from es at m here (Ok []) ≡ Ok [] → Counting es pos n slot (at + m * stride es.form) (left - m) (here + m) count
    unfolding counted_of
    counting_gap e =
        let p = counting_pass 0 (ap counted_of (sym e)) in
        let z : count + 0 ≡ count = omega arith in
        rw z at p

-- element i of a run is passed, and k records of it counted
pub counting_next : {es : Elements} {pos n slot i count : ℕ} → Counting es pos n slot (pos + i * stride es.form) (n - i) (slot + i) count → i < n
    → (k : ℕ) → Ok k ≡ counted_of (elements_from es (pos + i * stride es.form) 1 (slot + i) (Ok []))
    → Counting es pos n slot (pos + (i + 1) * stride es.form) (n - (i + 1)) (slot + (i + 1)) (count + k)
counting_next {es = es} {pos = pos} {n = n} {slot = slot} {i = i} c h k q =
    let p = counting_pass c 1 (omega arith) k q in
    let e : pos + i * stride es.form + 1 * stride es.form ≡ pos + (i + 1) * stride es.form = omega arith in
    let f : n - i - 1 ≡ n - (i + 1) = omega arith in
    let g : slot + i + 1 ≡ slot + (i + 1) = omega arith in
    rw (e, f, g) at p

-- one element, as it is found
module _ (es : Elements) (at s : ℕ) (below : s < es.count) (x : Outcome (Option Entry)) (is : x ≡ found_of (element es at s)) where
  first : elements_from es at 1 s (Ok []) ≡ also_element (element es at s) (Ok [])
  unfolding elements_from
  first = run_first es at 1 s (Ok []) (omega arith) below

  pub one_refused : (r : Refusal) → x ≡ Err r → Err r ≡ counted_of (elements_from es at 1 s (Ok []))
  unfolding counted_of also_element
  one_refused r f = rw (first, found_refused _ r (sym is ∙ f)) refl

  pub one_none : (v : Option Entry) → x ≡ Ok v → is_some v ≡ false → Ok 0 ≡ counted_of (elements_from es at 1 s (Ok []))
  unfolding counted_of also_element
  one_none None f h = rw (first, found_absent _ (sym is ∙ f)) refl
  one_none (Some y) f h = absurd (false_true (sym h))

  pub one_some : (v : Option Entry) → x ≡ Ok v → is_some v ≡ true → Ok 1 ≡ counted_of (elements_from es at 1 s (Ok []))
  unfolding counted_of also_element also
  one_some None f h = absurd (false_true h)
  one_some (Some y) f h = rw (first, (found_chunk _ y (sym is ∙ f)).1) refl
