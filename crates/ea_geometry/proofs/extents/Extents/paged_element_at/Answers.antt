-- `ea_geometry::extents::Extents::paged_element_at` meets its contract. Assumes nothing.
use Prim.Native.Nat.{◌/◌, ◌*◌, ◌^◌, ◌≤◌, ◌<◌}
use native.Mathlib.Nat.{div-mul-le_self, mod-lt}
use native.Mathlib.Omega.{arith}
use lib.Pow.{pow_pos}
use Rattle.ea_geometry.specs.Sizes.{page_elements}
use Rattle.ea_geometry.specs.Extents.{paged_element_at}
use Rattle.ea_geometry.proofs.Counts.{page_elements_few}
use Rattle.ea_geometry.proofs.Positions.{page_at_le}
use Rattle.ea_geometry.proofs.extents.Extents.paged_element_at.Goals.{After-page_elements-n}
use Rattle.ea_geometry.proofs.extents.Extents.paged_element_at.Goals as goal

some : (c : After-page_elements-n) → 0 < c.page_elements-n.result
unfolding page_elements
some c = rw c.page_elements-n.ensures (pow_pos c.args.self.sizes.parameters.max_dblk_nelmts_bits)

inside : (c : After-page_elements-n) → c.args.i / c.page_elements-n.result * page_elements c.args.self.sizes.parameters ≤ 2 ^ 35
inside c = rw c.page_elements-n.ensures (omega (arith, div-mul-le_self c.args.i (page_elements c.args.self.sizes.parameters)))

pub nonzero_div-i : goal.nonzero_div-i
nonzero_div-i c = some (goal.at.nonzero_div-i c).After-page_elements-n

pub nonzero_rem-i : goal.nonzero_rem-i
nonzero_rem-i c = some (goal.at.nonzero_rem-i c).After-page_elements-n

pub element_at-requires : goal.element_at-requires
element_at-requires c =
    let g = c.args.self in (
      omega (arith, c.page_at.ensures, inside (goal.at.element_at-requires c).After-page_elements-n, page_at_le g.sizes.parameters g.offset_size c.args.self.legal (omega arith) c.args.self.sizes.served (c.args.i / c.page_elements-n.result)),
      omega (arith, mod-lt c.args.i (some (goal.at.element_at-requires c).After-page_elements-n), c.page_elements-n.ensures, page_elements_few g.sizes.parameters c.args.self.sizes.served),
    )

pub returns : goal.returns
unfolding paged_element_at
returns c = rw (c.element_at.ensures, c.page_at.ensures, c.page_elements-n.ensures)
