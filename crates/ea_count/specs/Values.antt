-- What the code's values stand for.
use Rattle.std.specs.Prelude.{ℕ, ◌≤◌, ◌≡◌}
use Rattle.elements.specs.declared.ElementReader.{ElementReader}
use Rattle.ea_geometry.specs.Sizes.{super_blocks}
use Rattle.ea_geometry.specs.Extents.{form_of}
use Rattle.ea_geometry.specs.Slots.{first_slot}
use Rattle.ea_blocks.specs.declared.BoundedArray.{BoundedArray}

-- There are super blocks from `begin` up to `end`, and `first` records are counted before.
pub record WalkFrom (a : BoundedArray) (r : ElementReader) (first begin end : ℕ) : Type 0 where
  pub formed : form_of a.extents.sizes.parameters a.extents.offset_size ≡ r.form
  pub few : first ≤ first_slot a.extents.sizes.parameters begin
  pub ordered : begin ≤ end
  pub supers : end ≤ super_blocks a.extents.sizes.parameters
