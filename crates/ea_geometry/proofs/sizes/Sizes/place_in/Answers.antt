-- `ea_geometry::sizes::Sizes::place_in` meets its contract. Assumes nothing.
use mathlib.Core.Path.{sym, ◌∙◌}
use lib.Pow.{pow_pos}
use Rattle.ea_geometry.specs.Sizes.{page_elements}
use Rattle.ea_geometry.specs.Place.{place_in}
use Rattle.ea_geometry.proofs.Places.{page_below}
use Rattle.ea_geometry.proofs.sizes.Sizes.place_in.Goals as goal

pub nonzero_div-page : goal.nonzero_div-page
unfolding page_elements
nonzero_div-page c = rw c.page_elements.ensures (pow_pos c.args.self.parameters.max_dblk_nelmts_bits)

pub bit_number-bit-requires : goal.bit_number-bit-requires
bit_number-bit-requires c =
    rw c.page_elements.ensures
    (c.requires.0, c.requires.1, page_below c.args.self.parameters c.args.self.served c.args.u c.args.i c.requires.0 (sym c.in_pages.ensures ∙ c.if-in_pages.true) c.requires.2)

pub returns-then-in_pages : goal.returns-then-in_pages
unfolding place_in
returns-then-in_pages c = rw (c.bit_number-bit.ensures, c.page_elements.ensures, sym c.in_pages.ensures ∙ c.if-in_pages.true)

pub returns : goal.returns
unfolding place_in
returns c = rw (sym c.in_pages.ensures ∙ c.if-in_pages.false)
