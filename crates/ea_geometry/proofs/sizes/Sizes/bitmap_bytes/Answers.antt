-- `ea_geometry::sizes::Sizes::bitmap_bytes` meets its contract. Assumes nothing.
use mathlib.Core.Path.{sym, ◌∙◌}
use native.Mathlib.Omega.{arith}
use Rattle.ea_geometry.specs.Sizes.{bitmap_bytes}
use Rattle.structures.specs.PageBits.{bit_bytes}
use Rattle.ea_geometry.proofs.Counts.{bitmap_few, bytes_up}
use Rattle.ea_geometry.proofs.sizes.Sizes.bitmap_bytes.Goals as goal

pub overflow_mul-result : goal.overflow_mul-result
unfolding bit_bytes
overflow_mul-result c = rw (c.blocks-then-over_page.ensures, c.div_ceil.ensures, bytes_up, c.pages.ensures) (omega (arith, bitmap_few c.args.self.parameters c.args.self.served c.args.u c.requires))

pub returns-then-over_page : goal.returns-then-over_page
unfolding bitmap_bytes bit_bytes
returns-then-over_page c = rw (c.blocks-then-over_page.ensures, c.div_ceil.ensures, bytes_up, c.pages.ensures, sym c.over_page.ensures ∙ c.if-over_page.true)

pub returns : goal.returns
unfolding bitmap_bytes
returns c = rw (sym c.over_page.ensures ∙ c.if-over_page.false)
