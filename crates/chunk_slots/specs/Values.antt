-- What the code's values stand for.
use Rattle.std.specs.Prelude.{ℕ, cond, List, ltb}
use Rattle.std.proofs.lemmas.List.Edits.{sets}
use Rattle.chunk_grid.specs.Grid.{Grid, pairwise, numbers_nothing, offsets}

-- The offsets of a slot as they are handed over: 0 for one that isn't below its extent.
unfoldable pub shown : Grid → ℕ → List ℕ
shown g s = pairwise (λ (o e : ℕ). cond (ltb o e) o 0) (offsets g s) g.present

-- They are stored at the beginning of a lent array l; a grid that numbers nothing leaves it.
unfoldable pub handed : Grid → ℕ → List ℕ → List ℕ
handed g s l = cond (numbers_nothing g) l (sets l 0 (shown g s))
