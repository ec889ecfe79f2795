-- Readers that do less than a list or a lookup, and come close.
use Rattle.std.specs.Prelude.{ℕ, ◌+◌, ◌≡◌, List, [], ◌∷◌, Err, None, Ok, Option}
use Rattle.refusal.specs.Refusals.{Outcome}
use Rattle.refusal.specs.declared.Refusal.TheVariants.{ListTooSmall}
use Rattle.refusal.specs.declared.Refusal.{Refusal}
use Rattle.index.specs.Index.{Rec, Listing}
use Rattle.index.specs.ExactList.{ExactList}
use Rattle.elements.specs.Runs.{elements_from}
use Rattle.ea_geometry.specs.Sizes.{direct_super_blocks}
use Rattle.ea_geometry.specs.Extents.{inline_element_at}
use Rattle.ea_walk.specs.Walk.{supers_from}
use Rattle.ea_worked.specs.Files.{Sample, list_of, index_in}
use Rattle.ea_worked.specs.Pages.{record_at_slot}

-- not the list of a dataset, and not exact with any count
abbrev pub Excluded : Sample → List Rec → Type 0
Excluded s l = (list_of s ≡ Ok l → ⊥) × ((count : ℕ) → ExactList (index_in s) l count → ⊥)

-- lists inline elements and direct data blocks truly, and treats super blocks as unset
unfoldable pub supers_unset : Sample → Listing
supers_unset s =
    let a = s.array in
    elements_from s.elements (a.index_at + inline_element_at a.parameters a.offset_size 0)
    a.parameters.idx_blk_elmts 0
    (supers_from a s.elements (direct_super_blocks a.parameters) 0 a.parameters.idx_blk_elmts (Ok []))

-- what is listed of the file with pages where a data block ends at its first clear page: slot 10 is left out
unfoldable pub ended_at_clear : List Rec
ended_at_clear =
    record_at_slot 0 (0 ∷ 0 ∷ [])
    ∷ record_at_slot 1 (10 ∷ 0 ∷ [])
    ∷ record_at_slot 6 (20 ∷ 5 ∷ [])
    ∷ record_at_slot 13 (10 ∷ 15 ∷ [])
    ∷ record_at_slot 16 (0 ∷ 20 ∷ [])
    ∷ []

-- says 9 first thing, with any count
abbrev pub always_nine : ℕ → Listing
always_nine needed = Err (ListTooSmall needed)

-- says absent first thing
abbrev pub always_absent : Outcome (Option Rec)
always_absent = Ok None

-- leaves the lent list unwritten
abbrev pub unwritten : List ℕ → List ℕ
unwritten out = out

abbrev pub always_empty : List Rec
always_empty = []

abbrev pub always_refusing : Refusal → Listing
always_refusing r = Err r
