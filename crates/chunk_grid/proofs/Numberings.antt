-- What holds of every grid that a numbering's numbers are of, holds. Assumes nothing.
use mathlib.Core.Logic.{∥∥₁_elim}
use Rattle.chunk_grid.specs.declared.numbering.Numbering.{Numbering}
use Rattle.chunk_grid.specs.Grid.{Grid}
use Rattle.chunk_grid.specs.Numberings.{NumbersOf, CountsOf, ExtentsOf}

pub of_any : (m : Numbering) {P : Type 0} → IsProp P → ((g : Grid) → NumbersOf m g → CountsOf m g → ExtentsOf m g → P) → P
of_any m prop f = ∥∥₁_elim m.described prop (λ d. f d.0 d.1.numbered d.1.counted d.1.extended)
