-- An accepted walk is of a served array; it lists the records of all slots whose place holds an address and that have a
-- chunk, in slot order, and the path to each slot is accepted with the slot's record. Assumes nothing.
use mathlib.Core.Path.{◌≡◌}
use mathlib.Core.List.{List}
use Rattle.std.specs.Prelude.{Ok}
use Rattle.refusal.proofs.Outcomes.{yields_inv}
use Rattle.index.specs.Index.{Rec}
use Rattle.elements.specs.Elements.{Elements}
use Rattle.located.proofs.Walks.{Right, right_end, right_steps}
use Rattle.fa_header.specs.Served.{fixed_served_test}
use Rattle.fa_geometry.specs.Layout.{fixed_form}
use Rattle.fa_blocks.specs.FixedArray.{FixedArray}
use Rattle.fa_walk.specs.Walk.{fixed_located, fixed_walk}
use Rattle.fa_walk.proofs.Induction.{walk_kept}

module _ (a : FixedArray) (e : Elements) where
  pub walk-served : (l : List Rec) → fixed_walk a e ≡ Ok l → fixed_served_test a.header ≡ Ok tt
  unfolding fixed_walk
  walk-served l h = (yields_inv _ _ l h).0

  pub walk_right : fixed_form a.header a.offset_size ≡ e.form → e.count ≡ a.header.num_elements
      → (l : List Rec) → fixed_walk a e ≡ Ok l → Right (fixed_located a e) 0 l
  walk_right form count =
      walk_kept a e form count (right_steps (fixed_located a e)) (λ s h l x. right_end (fixed_located a e) s l h x) (λ p lt b. tt) tt tt
