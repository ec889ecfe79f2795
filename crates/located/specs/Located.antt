-- An index whose elements lie in a file, of any kind.
use Rattle.std.specs.Prelude.{ℕ, Bool, not, cond, ◌&&◌, ltb, None, Ok, Option, Some}
use Rattle.refusal.specs.Refusals.{Checked, Outcome}
use Rattle.refusal.specs.Outcome.{◌yields◌}
use Rattle.index.specs.declared.Entry.{Entry}
use Rattle.index.specs.Index.{Index, Rec}
use Rattle.elements.specs.Elements.{Elements, undefined_element, entry_at, element}

-- What its elements are read by; of each slot the tests of the structures that lead to its place, whether all pointers
-- on the way are defined and its page bit (if any) is set, and the file's position of its element.
pub record Located : Type 0 where
  pub elements : Elements
  pub tests : ℕ → Checked
  pub reached : ℕ → Bool
  pub position : ℕ → ℕ

-- A place holds an address if it is reached and its address is defined. It holds its element's address, size and mask.
unfoldable pub held_in : Located → ℕ → Option Entry
held_in l s = cond (l.reached s && not (undefined_element l.elements (l.position s)))
    (Some (entry_at l.elements (l.position s))) None

-- the index that it is
abbrev pub index_of : Located → Index
index_of l = record { grid = l.elements.grid; count = l.elements.count; held = held_in l }

-- The path to a slot's place: the tests of the structures that lead to it, then its element.
unfoldable pub path : Located → ℕ → Outcome (Option Rec)
path l s = l.tests s yields cond (l.reached s) (element l.elements (l.position s) s) (Ok None)

-- What a slot is answered: below the count what its path comes to, else nothing.
unfoldable pub slot_path : Located → Option ℕ → Outcome (Option Rec)
slot_path l None = Ok None
slot_path l (Some s) = cond (ltb s l.elements.count) (path l s) (Ok None)
