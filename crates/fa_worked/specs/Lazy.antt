-- Readers that do less than a list or a lookup, and come close.
use Rattle.std.specs.Prelude.{ℕ, zero, suc, ◌+◌, ◌≡◌, false, not, cond, List, [], Err, None, Ok, Option}
use Rattle.refusal.specs.Refusals.{Outcome}
use Rattle.refusal.specs.declared.Refusal.TheVariants.{ListTooSmall}
use Rattle.refusal.specs.declared.Refusal.{Refusal}
use Rattle.refusal.specs.Outcome.{◌yields◌}
use Rattle.structures.specs.Structures.{Pages}
use Rattle.calls.specs.Call.{Call}
use Rattle.index.specs.Index.{Rec, Listing}
use Rattle.index.specs.ExactList.{ExactList}
use Rattle.elements.specs.Elements.{Elements}
use Rattle.elements.specs.Runs.{elements_from, pages_from}
use Rattle.fa_geometry.specs.Layout.{fixed_pages}
use Rattle.fa_blocks.specs.Blocks.{fixed_pages_of}
use Rattle.fa_worked.specs.Files.{array_in, elements_in, index_in, list_of}

-- not the list of a call, and not exact with any count
abbrev pub Excluded : Call → List Rec → Type 0
Excluded c l = (list_of c ≡ Ok l → ⊥) × ((count : ℕ) → ExactList (index_in c) l count → ⊥)

-- the pages where none is set
abbrev pub none_set : Pages → Pages
none_set g = record { size = g.size; set = λ (p : ℕ). false; test = g.test; position = g.position }

-- treats all pages as unset
unfoldable pub pages_unset : Call → Listing
pages_unset c =
    let a = array_in c in
    pages_from (elements_in c) (none_set (fixed_pages_of a)) (fixed_pages a.header) 0 0 (Ok [])

-- lists j pages from p on truly, but ends at the first clear one
unfoldable pub until_clear : Elements → Pages → ℕ → ℕ → ℕ → Listing
until_clear e g zero p s = Ok []
until_clear e g (suc j) p s =
    cond (not (g.set p)) (Ok [])
    (g.test p yields elements_from e (g.position p) g.size s (until_clear e g j (p + 1) (s + g.size)))

unfoldable pub ended_at_clear : Call → Listing
ended_at_clear c = let a = array_in c in until_clear (elements_in c) (fixed_pages_of a) (fixed_pages a.header) 0 0

abbrev pub always_empty : List Rec
always_empty = []

abbrev pub always_refusing : Refusal → Listing
always_refusing r = Err r

-- says 9 first thing, with any count
abbrev pub always_nine : ℕ → Listing
always_nine needed = Err (ListTooSmall needed)

-- says absent first thing
abbrev pub always_absent : Outcome (Option Rec)
always_absent = Ok None

-- leaves the lent list unwritten
abbrev pub unwritten : List ℕ → List ℕ
unwritten out = out
