-- `ea_geometry::EaGeometry::index_extent` meets its contract. Assumes nothing.
use native.Mathlib.Omega.{arith}
use Rattle.refusal.specs.Refusals.{figure}
use Rattle.ea_geometry.specs.Sizes.{super_pointers}
use Rattle.ea_geometry.proofs.Counts.{supers_few, direct_pointers_few}
use Rattle.ea_geometry.proofs.Positions.{index_extent_is}
use Rattle.ea_geometry.proofs.EaGeometry.index_extent.Goals as goal

pub overflow_add-addresses : goal.overflow_add-addresses
overflow_add-addresses c = omega (arith, c.direct_pointers.ensures, direct_pointers_few c.args.self.parameters c.requires)

pub overflow_add-addresses-2 : goal.overflow_add-addresses-2
unfolding super_pointers
overflow_add-addresses-2 c =
    omega (arith, c.direct_pointers.ensures, direct_pointers_few c.args.self.parameters c.requires, c.super_pointers.ensures, supers_few c.args.self.parameters c.requires)

pub returns : goal.returns
unfolding figure
returns c =
    let g = c.args.self in
    let h = g.parameters in
    let o = g.offset_size in
    rw (c.saturating_add-2.ensures, c.saturating_add.ensures, c.saturating_mul-elements.ensures, c.element_stride.ensures, c.saturating_mul-pointers.ensures, c.super_pointers.ensures, c.direct_pointers.ensures)
    (omega (arith, index_extent_is h o))
