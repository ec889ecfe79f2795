-- What the code's values stand for: the elements of an index, and a walk of it that was accepted.
use Rattle.std.specs.Prelude.{ℕ, ◌<◌, ◌≡◌, List, Ok}
use Rattle.chunk_grid.specs.Grid.{Grid}
use Rattle.element_form.specs.declared.Form.{Form}
use Rattle.index.specs.Index.{Rec, Listing}
use Rattle.elements.specs.declared.ElementReader.{ElementReader}
use Rattle.elements.specs.Elements.{Elements}
use Rattle.elements.specs.Values.{elements_of, Reads}

-- The elements of a file in this form, of a dataset with this grid and element size, with this count of slots in use.
abbrev pub elements_read : List ℕ → Form → Grid → ℕ → ℕ → Elements
elements_read file form grid n count =
    record { file = file; form = form; grid = grid; element_bytes = n; count = count }

-- The walk of an index with this count of slots in use, by this reader of its elements, of a grid and element size that
-- it is made of, is accepted with the records l.
pub record Walked (walk : Elements → Listing) (form : Form) (count : ℕ) (file : List ℕ) (r : ElementReader)
    (l : List Rec) : Type 0 where
  pub formed : form ≡ r.form
  pub counted : count ≡ r.count
  pub grid : Grid
  pub element_bytes : ℕ
  pub reads : Reads r grid element_bytes
  pub accepts : walk (elements_of file r grid element_bytes) ≡ Ok l

-- Some walk of an index is accepted that comes to slot s.
pub record WalkedTo (walk : Elements → Listing) (form : Form) (count : ℕ) (file : List ℕ) (s : ℕ) : Type 0 where
  pub elements : Elements
  pub list : List Rec
  pub read : elements.file ≡ file
  pub formed : form ≡ elements.form
  pub counted : count ≡ elements.count
  pub below : s < count
  pub accepts : walk elements ≡ Ok list
