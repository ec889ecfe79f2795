-- `ea_geometry::sizes::Sizes::in_pages` meets its contract. Assumes nothing.
use Prim.Native.Nat.{◌<◌, ◌≤◌}
use native.Mathlib.Omega.{arith}
use borrow.Author.Tests.{le-leb, lt-leb}
use Rattle.ea_geometry.specs.Sizes.{direct_super_blocks}
use Rattle.ea_geometry.specs.Place.{in_pages}
use Rattle.ea_geometry.proofs.sizes.Sizes.in_pages.Goals as goal

pub returns-then-u-direct_super_blocks : goal.returns-then-u-direct_super_blocks
unfolding in_pages
returns-then-u-direct_super_blocks c =
    let a = c.args in
    let less : a.u < direct_super_blocks a.self.parameters = omega (arith, c.direct_super_blocks.ensures) in
    rw (lt-leb (direct_super_blocks a.self.parameters) a.u less)

pub returns : goal.returns
unfolding in_pages
returns c =
    let a = c.args in
    let more : direct_super_blocks a.self.parameters ≤ a.u = omega (arith, c.direct_super_blocks.ensures) in
    rw (le-leb (direct_super_blocks a.self.parameters) a.u more) c.over_page.ensures
