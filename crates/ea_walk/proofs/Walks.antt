-- An accepted walk lists the records of all slots below the count whose place holds an address and that have a chunk,
-- in slot order; and the path to each of these slots is accepted with the slot's record. Assumes nothing.
use Prim.Native.Nat.{◌<◌, ◌≤◌}
use mathlib.Core.Path.{◌≡◌}
use mathlib.Core.List.{List}
use lib.ListN.{length}
use Rattle.std.specs.Prelude.{Ok}
use Rattle.refusal.specs.Refusals.{largest64}
use Rattle.refusal.proofs.Outcomes.{yields_inv}
use Rattle.chunk_grid.proofs.Grids.{accepted as grid_accepted}
use Rattle.index.specs.Index.{Rec}
use Rattle.index.specs.SlotRecords.{records}
use Rattle.index.specs.ExactList.{ExactList}
use Rattle.elements.specs.Elements.{Elements}
use Rattle.located.specs.Located.{index_of}
use Rattle.located.proofs.Walks.{Right, right_end, right_steps, right_records, right_exact}
use Rattle.ea_geometry.specs.Extents.{form_of}
use Rattle.ea_blocks.specs.Array.{Array}
use Rattle.ea_blocks.specs.Structures.{array_test}
use Rattle.ea_walk.specs.Walk.{located, walk, list}
use Rattle.ea_walk.proofs.Induction.{walk_kept}

-- the way into the array is tested first
pub walk_enters : (a : Array) (e : Elements) (l : List Rec) → walk a e ≡ Ok l → array_test a ≡ Ok tt
unfolding walk
walk_enters a e l h = (yields_inv _ _ l h).0

-- elements in the array's form
module _ (a : Array) (e : Elements) (form : form_of a.parameters a.offset_size ≡ e.form) where
  pub walk_right : (l : List Rec) → walk a e ≡ Ok l → Right (located a e) 0 l
  walk_right = walk_kept a e form (right_steps (located a e)) (λ z w. tt) tt tt (λ s h l x. right_end (located a e) s l h x)

  -- An accepted list's records, any rank.
  pub list-records : (l : List Rec) → list a e ≡ Ok l → l ≡ records (index_of (located a e)) 0 e.count
  unfolding list
  list-records l x = right_records (located a e) l (walk_right l (yields_inv _ _ l x).1)

  -- An accepted list of rank 1 to 32 is complete and exact.
  pub list-exact : (l : List Rec) → 0 < e.grid.rank → e.count ≤ largest64 → list a e ≡ Ok l → ExactList (index_of (located a e)) l (length l)
  unfolding list
  list-exact l ranked fits x =
      let y = yields_inv _ _ l x in
      right_exact (located a e) l (walk_right l y.1) (grid_accepted e.grid y.0) ranked fits
