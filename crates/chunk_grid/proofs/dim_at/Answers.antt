-- `chunk_grid::dim_at` meets its contract. Assumes nothing.
use Prim.Native.Nat.{suc, ◌-◌}
use mathlib.Core.Path.{◌≡◌, sym, ap, ◌∙◌}
use native.Mathlib.Omega.{arith}
use Rattle.chunk_grid.specs.Values.{dim_at}
use Rattle.chunk_grid.proofs.Places.{dim_zero, dim_low, dim_high}
use Rattle.chunk_grid.proofs.dim_at.Goals as goal

pub returns-then-i-eq0 : goal.returns-then-i-eq0
returns-then-i-eq0 c = rw c.if-i-eq0.true (sym (dim_zero _))

pub returns-then-i-rotated : goal.returns-then-i-rotated
returns-then-i-rotated c =
    let a = c.args in
    let e : a.i ≡ suc (a.i - 1) = omega arith in
    sym (ap (dim_at a.rotated) e ∙ dim_low a.rotated (a.i - 1) (omega arith))

pub returns-else-i-rotated : goal.returns-else-i-rotated
returns-else-i-rotated c =
    let a = c.args in
    let e : a.i ≡ suc (a.i - 1) = omega arith in
    e ∙ sym (ap (dim_at a.rotated) e ∙ dim_high a.rotated (a.i - 1) (omega arith))
