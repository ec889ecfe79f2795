-- An element in front of a list, and what is found at it. Assumes nothing.
use Prim.Native.Nat.{ℕ}
use mathlib.Core.Path.{◌≡◌, refl}
use mathlib.Core.List.{List}
use native.Mathlib.Omega.{arith}
use Rattle.std.specs.Prelude.{Err, None, Ok, Option, Some}
use Rattle.refusal.specs.Refusals.{Outcome}
use Rattle.refusal.specs.declared.Refusal.{Refusal}
use Rattle.refusal.specs.Outcome.{also}
use Rattle.refusal.proofs.Outcomes.{never, also_inv}
use Rattle.index.specs.declared.Entry.{Entry}
use Rattle.index.specs.Index.{Rec, Listing}
use Rattle.index.specs.SlotRecords.{with}
use Rattle.elements.specs.Runs.{also_element}
use Rattle.elements.specs.Values.{found_of}

-- an accepted list that begins with an element: what the element gives in front of what is left
pub also_element_inv : (e : Outcome (Option Rec)) (a : Listing) (l : List Rec) → also_element e a ≡ Ok l
    → (x : Option Rec) × (m : List Rec) × (e ≡ Ok x) × (a ≡ Ok m) × (l ≡ with x m)
unfolding also_element with
also_element_inv (Ok None) a l h = (None, l, refl, h, refl)
also_element_inv (Ok (Some r)) a l h = let i = also_inv _ a l h in (Some r, i.0, refl, i.1, i.2)
also_element_inv (Err r) a l h = absurd (never r l h)

-- and back
pub also_element_lem : (x : Option Rec) (l : List Rec) → also_element (Ok x) (Ok l) ≡ Ok (with x l)
unfolding also_element also with
also_element_lem None l = refl
also_element_lem (Some r) l = refl

-- what an outcome is of which this is found
pub found_refused : (a : Outcome (Option Rec)) (r : Refusal) → found_of a ≡ Err r → a ≡ Err r
unfolding found_of
found_refused (Err x) r h = cc
found_refused (Ok None) r h = let z : ◌≡◌ {A = ℕ} 0 1 = cc in absurd (omega arith)
found_refused (Ok (Some x)) r h = let z : ◌≡◌ {A = ℕ} 0 1 = cc in absurd (omega arith)

pub found_absent : (a : Outcome (Option Rec)) → found_of a ≡ Ok None → a ≡ Ok None
unfolding found_of
found_absent (Err x) h = let z : ◌≡◌ {A = ℕ} 0 1 = cc in absurd (omega arith)
found_absent (Ok None) h = refl
found_absent (Ok (Some x)) h = let z : ◌≡◌ {A = ℕ} 0 1 = cc in absurd (omega arith)

pub found_chunk : (a : Outcome (Option Rec)) (e : Entry) → found_of a ≡ Ok (Some e) → (x : Rec) × (a ≡ Ok (Some x)) × (x.entry ≡ e)
unfolding found_of
found_chunk (Err x) e h = let z : ◌≡◌ {A = ℕ} 0 1 = cc in absurd (omega arith)
found_chunk (Ok None) e h = let z : ◌≡◌ {A = ℕ} 0 1 = cc in absurd (omega arith)
found_chunk (Ok (Some x)) e h = (x, refl, cc)
