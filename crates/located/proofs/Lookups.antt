-- A lookup of any located index: what an accepted one says of its corner, and that it agrees with an accepted list.
-- Assumes nothing.
use Prim.Native.Nat.{ℕ, ◌<◌, ◌≤◌}
use mathlib.Core.Path.{◌≡◌, refl, ◌∙◌}
use mathlib.Core.Bool.{true}
use mathlib.Core.List.{List}
use native.Mathlib.Omega.{arith}
use lib.ListN.{length}
use Rattle.std.specs.Prelude.{Ok, Option}
use Rattle.refusal.specs.Refusals.{largest64, ◌then◌, Checked, Outcome}
use Rattle.refusal.specs.Outcome.{◌yields◌}
use Rattle.refusal.proofs.Tests.{then_inv}
use Rattle.refusal.proofs.Outcomes.{yields_inv, yields_passed}
use Rattle.chunk_grid.specs.Grid.{Grid, grid_test, corner_test, is_chunk, slot_of}
use Rattle.chunk_grid.proofs.Grids.{accepted as grid_accepted}
use Rattle.chunk_grid.proofs.Chunks.{corner_chunk, chunk_corner}
use Rattle.index.specs.Index.{Rec}
use Rattle.index.specs.ExactList.{Answers, Agrees}
use Rattle.index.proofs.Answers.{slot_record, answers, agrees}
use Rattle.located.specs.Located.{Located, index_of, slot_path}
use Rattle.located.proofs.Paths.{slot_record_lem, slot_accepts}
use Rattle.located.proofs.Walks.{Right, right_exact}

-- a lookup whose own tests, behind the grid's and the corner's, are t
module _ (x : Located) (t : Checked) (corner : List ℕ) where
  abbrev g : Grid
  g = x.elements.grid

  abbrev lookup : Outcome (Option Rec)
  lookup = grid_test g then corner_test g corner then t yields slot_path x (slot_of g corner)

  -- An accepted lookup has a record exactly when the corner's slot is below the count and its place holds an address,
  -- and then that record; otherwise it is absent. Every rank.
  pub lookup_answers : (r : Option Rec) → lookup ≡ Ok r → Answers (index_of x) corner r
  lookup_answers r h =
      let a = yields_inv _ _ r h in
      let b = then_inv _ _ a.0 in
      let k = corner_chunk g corner (then_inv _ _ b.1).0 in
      answers (index_of x) corner (grid_accepted g b.0) k r (slot_record_lem x (slot_of g corner) r a.1)

  module _ (l : List Rec) (right : Right x 0 l) (a : grid_test g ≡ Ok tt) (b : t ≡ Ok tt) (k : is_chunk g corner ≡ true) where
    -- Where a list is accepted, the lookup of any chunk refuses nothing. Every rank.
    pub lookup_accepts : lookup ≡ Ok (slot_record (index_of x) (slot_of g corner))
    unfolding ◌then◌
    lookup_accepts =
        yields_passed _ _ (rw (a, chunk_corner g corner k, b) refl) ∙ slot_accepts x (slot_of g corner) (λ s lt. right.paths s (omega arith) lt)

    -- And it gives the chunk's record of the list, or absent where the list has none. Rank 1 to 32.
    pub lookup_agrees : 0 < g.rank → x.elements.count ≤ largest64 → Agrees l corner (slot_record (index_of x) (slot_of g corner))
    lookup_agrees ranked fits =
        let r = slot_record (index_of x) (slot_of g corner) in
        agrees (index_of x) l (length l) corner r (right_exact x l right (grid_accepted g a) ranked fits) (lookup_answers r lookup_accepts)
