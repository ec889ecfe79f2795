-- What holds of a slot in a data block. Assumes nothing.
use Prim.Native.Nat.{◌/◌, ◌<◌, ◌≤◌}
use mathlib.Core.Path.{◌≡◌, sym}
use mathlib.Core.Bool.{true}
use native.Mathlib.Omega.{arith}
use Rattle.std.specs.Prelude.{Ok}
use Rattle.refusal.specs.declared.Refusal.TheVariants.{OffsetSize}
use Rattle.fields.specs.Fields.{offset_size_test}
use Rattle.fields.proofs.Fields.{width_passed}
use Rattle.ea_header.specs.declared.Parameters.{Parameters}
use Rattle.ea_header.specs.Values.{Served}
use Rattle.ea_geometry.specs.Sizes.{page_elements, pages, most_elements}
use Rattle.ea_geometry.specs.Place.{in_pages, place_in, place}
use Rattle.ea_geometry.proofs.Counts.{elements_few}
use Rattle.ea_geometry.proofs.Places.{place_is, page_below}
use Rattle.ea_index.specs.declared.in_block.SlotInBlock.{SlotInBlock}

module _ (x : SlotInBlock) where
  abbrev h : Parameters
  h = x.array.array.extents.sizes.parameters

  pub served : Served h
  served = x.array.array.extents.sizes.served

  pub wide : offset_size_test x.array.array.extents.offset_size ≡ Ok tt
  wide = sym (width_passed (OffsetSize _) _ x.array.wide)

  pub placed : place h x.slot ≡ place_in h x.u x.k x.i
  placed = place_is h served x.slot x.u x.k x.i x.within

  pub few : x.i ≤ most_elements
  few = omega (arith, elements_few h served x.u x.within.super, x.within.element)

  -- its page is one of the data block's
  pub page_within : in_pages h x.u ≡ true → x.i / page_elements h < pages h x.u
  page_within q = page_below h served x.u x.i x.within.super q x.within.element
