-- An accepted walk that comes to a slot has tested that the array is served, and what leads to the slot's place. Assumes nothing.
use Prim.Native.Nat.{ℕ, ◌≤◌}
use mathlib.Core.Path.{sym}
use mathlib.Core.List.{List}
use native.Mathlib.Omega.{arith}
use Rattle.located.proofs.Paths.{path-tested}
use Rattle.fa_header.proofs.Served.{tested_serves}
use Rattle.fa_geometry.specs.declared.FixedArray.{FixedArray}
use Rattle.fa_geometry.specs.Layout.{fixed_form}
use Rattle.fa_blocks.specs.Values.{fixed_of}
use Rattle.fa_walk.specs.Walk.{fixed_located, fixed_walk}
use Rattle.fa_walk.proofs.Walks.{walk_right, walk-served}
use Rattle.walked_index.specs.Walked.{WalkedTo}
use Rattle.fa_index.specs.Given.{TestedTo}

module _ (f : List ℕ) (array : FixedArray) (s : ℕ)
    (w : WalkedTo (fixed_walk (fixed_of f array)) (fixed_form array.header array.offset_size) array.header.num_elements f s) where
  pub walked_served : array.header.max_nelmts_bits ≤ 32
  walked_served = tested_serves _ (walk-served (fixed_of f array) w.elements w.list w.accepts)

  pub walked_tested : TestedTo (fixed_of f array) s
  walked_tested =
      let right = walk_right (fixed_of f array) w.elements w.formed (sym w.counted) w.list w.accepts in
      record {
        entry = w.below;
        tests = path-tested (fixed_located (fixed_of f array) w.elements) s _ (right.paths s (omega arith) (omega (arith, w.below, w.counted)));
      }
