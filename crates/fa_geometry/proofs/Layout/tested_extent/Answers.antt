-- `fa_geometry::Layout::tested_extent` meets its contract. Assumes nothing.
use Prim.Native.Nat.{ℕ}
use mathlib.Core.Path.{sym, ap, ◌∙◌}
use native.Mathlib.Omega.{arith}
use Rattle.refusal.specs.Refusals.{figure}
use Rattle.structures.specs.PageBits.{bit_bytes}
use Rattle.chunk_grid.specs.Grid.{ceil_div}
use Rattle.chunk_grid.proofs.Building.{rounded_up}
use Rattle.fa_geometry.specs.Layout.{fixed_element_at, fixed_block_extent, fixed_head_extent, fixed_tested_extent}
use Rattle.fa_geometry.proofs.Layout.tested_extent.Goals.{then-is_paged, else-is_paged}
use Rattle.fa_geometry.proofs.Layout.tested_extent.Goals as goal

pub returns : goal.returns
unfolding bit_bytes ceil_div figure fixed_element_at fixed_block_extent fixed_head_extent fixed_tested_extent
returns c =
    elim c.if-is_paged.branch [
      | then-is_paged w ↦
          rw (sym c.is_paged.ensures ∙ w.if-is_paged.true)
          (omega (arith, w.div_ceil-inner.ensures ∙ rounded_up _ _ (omega arith) ∙ ap (λ (n : ℕ). ceil_div n 8) w.pages.ensures))
      | else-is_paged w ↦
          rw (sym c.is_paged.ensures ∙ w.if-is_paged.false) (omega (arith, rw w.element_stride.ensures at w.saturating_mul-inner.ensures))
    ]
