-- Runs of slots, and their records where every path is accepted. Assumes nothing.
use Prim.Native.Nat.{ℕ, zero, suc, ◌+◌, ◌-◌, ◌*◌, ◌<◌, ◌≤◌, min}
use mathlib.Core.Path.{◌≡◌, refl, sym, ap, subst, ◌∙◌}
use mathlib.Core.Bool.{false}
use mathlib.Core.List.{List, []}
use mathlib.Core.Logic.{⊎_elim}
use native.Mathlib.Omega.{arith}
use native.Mathlib.Nat.{add-mul}
use borrow.Author.Tests.{le-leb, lt-leb}
use lib.ListN.{length}
use Rattle.std.specs.Prelude.{Ok}
use Rattle.refusal.proofs.Tests.{lt_or_ge}
use Rattle.element_form.specs.Form.{stride}
use Rattle.index.specs.SlotRecords.{record_at, records}
use Rattle.index.proofs.Steps.{first, others}
use Rattle.index.proofs.Records.{records_none}
use Rattle.elements.specs.Runs.{elements_from}
use Rattle.elements.proofs.Answers.{also_element_lem}
use Rattle.located.specs.declared.Run.TheVariants.{Gap, Elements}
use Rattle.located.specs.Located.{Located, index_of, path}
use Rattle.located.specs.Values.{HasAt, RunOf}
use Rattle.located.proofs.Paths.{LeadsTo, LeadsNowhere, unreached, path-element}

module _ (x : Located) where
  abbrev count : ℕ
  count = x.elements.count

  abbrev st : ℕ
  st = stride x.elements.form

  -- of n slots from s on, none reached, those from slot i on are a run
  gap_run : (s n i : ℕ) → i < n → ((j : ℕ) → j < n → x.reached (s + j) ≡ false) → RunOf x (s + i) (Gap (n - i))
  gap_run s n i lt h = (omega arith, λ j k. subst (λ (t : ℕ). x.reached t ≡ false) (at j) (h (i + j) (omega arith)))
    where
      at : (j : ℕ) → s + (i + j) ≡ s + i + j
      at j = omega arith

  -- of n slots from s on, with their elements in the file from pos on, those from slot i on are a run
  elements_run : (s pos n i : ℕ) → i < n → pos + n * st ≤ length x.elements.file → ((j : ℕ) → j < n → HasAt x (s + j) (pos + j * st))
      → RunOf x (s + i) (Elements (pos + i * st) (n - i))
  elements_run s pos n i lt room h = (
    omega arith,
    (let e : i * st + (n - i) * st ≡ n * st = sym (add-mul i (n - i) st) ∙ ap (λ (t : ℕ). t * st) (parts (omega arith)) in omega arith),
    λ j k. subst (λ (t : ℕ). HasAt x t (pos + i * st + j * st)) (at j) (subst (HasAt x (s + (i + j))) (pos_at j) (h (i + j) (omega arith))),
  )
    where
      parts : i ≤ n → i + (n - i) ≡ n
      parts le = omega arith

      at : (j : ℕ) → s + (i + j) ≡ s + i + j
      at j = omega arith

      pos_at : (j : ℕ) → pos + (i + j) * st ≡ pos + i * st + j * st
      pos_at j = omega arith

  -- of n slots from s on that lead nowhere, those from a slot on are a run
  pub gap_from : (s n i slot : ℕ) → i < n → slot ≡ s + i → ((j : ℕ) → j < n → LeadsNowhere x (s + j)) → RunOf x slot (Gap (n - i))
  gap_from s n i slot lt q l = rw q (gap_run s n i lt (λ j k. (l j k).reach))

  -- of n slots from s on that lead to elements from pos on, those from a slot on are a run
  pub run_from : (file : List ℕ) → x.elements.file ≡ file → (s n i slot : ℕ) → i < n → slot ≡ s + i → (pos pos' : ℕ)
      → pos' ≡ pos + i * st → pos + n * st ≤ length file → ((j : ℕ) → j < n → LeadsTo x (s + j) (pos + j * st))
      → RunOf x slot (Elements pos' (n - i))
  run_from file same s n i slot lt q pos pos' p room l =
      rw (q, p) (elements_run s pos n i lt (rw same room) (λ j k. record { reach = (l j k).reach; position = (l j k).position }))

  -- slots that aren't reached have no records
  pub gap_records : (n s : ℕ) → ((i : ℕ) → i < n → x.reached (s + i) ≡ false) → records (index_of x) s n ≡ []
  gap_records n s h = records_none (index_of x) n s (λ i lt. unreached x (s + i) (h i lt))

  -- a run of elements gives the records of its slots up to the count
  pub run_records : (n pos s : ℕ) → ((t : ℕ) → s ≤ t → t < count → path x t ≡ Ok (record_at (index_of x) t))
      → ((i : ℕ) → i < n → HasAt x (s + i) (pos + i * st))
      → elements_from x.elements pos n s (Ok []) ≡ Ok (records (index_of x) s (min n (count - s)))
  unfolding elements_from records
  run_records zero pos s p h = let z : min 0 (count - s) ≡ 0 = omega arith in rw z refl
  run_records (suc n) pos s p h =
      let again = run_records n (pos + st) (s + 1) (λ t a b. p t (omega arith) b) (others (HasAt x) s pos st n h) in
      ⊎_elim
      (λ (lt : s < count).
      let z : min (suc n) (count - s) ≡ suc (min n (count - (s + 1))) = omega arith in
      let e = path-element x s (record_at (index_of x) s) (p s (omega arith) lt) pos (first (HasAt x) s pos st n h) in
      rw (lt-leb count s lt, z, again, e) (also_element_lem (record_at (index_of x) s) _))
      (λ (ge : count ≤ s).
      let z : min (suc n) (count - s) ≡ 0 = omega arith in
      rw (le-leb count s ge, z) refl)
      (lt_or_ge s count)
