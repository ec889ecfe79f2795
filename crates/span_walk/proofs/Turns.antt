-- The spans of the index block and of a super block, and one turn of a loop over super blocks or data blocks. Assumes
-- nothing.
use Prim.Native.Nat.{ℕ, ◌+◌, ◌-◌, ◌<◌, ◌≤◌}
use mathlib.Core.Path.{◌≡◌, refl}
use mathlib.Core.Bool.{true, false}
use mathlib.Core.List.{[], ◌∷◌}
use native.Mathlib.Omega.{arith}
use Rattle.std.specs.Prelude.{Ok}
use Rattle.refusal.specs.Outcome.{◌yields◌, also}
use Rattle.fields.specs.Fields.{undefined}
use Rattle.ea_geometry.specs.Sizes.{super_blocks, blocks}
use Rattle.ea_geometry.proofs.Counts.{less}
use Rattle.ea_blocks.specs.Array.{Array}
use Rattle.ea_blocks.specs.Structures.{index_block, super_block, data_block, is_direct, super_undefined, block_undefined}
use Rattle.span_walk.specs.Spans.{span_of, spanned_test}
use Rattle.span_walk.specs.Walk.{joined, block_spans, super_spans, supers_from, index_spans}

module _ (a : Array) where
  -- the index block
  pub index_none : undefined a.offset_size a.index_at ≡ true → index_spans a ≡ Ok []
  unfolding index_spans
  index_none e = rw e refl

  pub index_defined : undefined a.offset_size a.index_at ≡ false
      → index_spans a ≡ (spanned_test a index_block yields also (span_of a index_block) (supers_from a (super_blocks a.parameters) 0))
  unfolding index_spans
  index_defined e = rw e refl

  module _ (u : ℕ) where
    -- a super block and its data blocks
    pub super_direct : is_direct a u ≡ true → super_spans a u ≡ Ok (block_spans a u (blocks u) 0)
    unfolding super_spans
    super_direct d = rw d refl

    module _ (d : is_direct a u ≡ false) where
      pub super_none : super_undefined a u ≡ true → super_spans a u ≡ Ok []
      unfolding super_spans
      super_none w = rw (d, w) refl

      pub super_defined : super_undefined a u ≡ false
          → super_spans a u ≡ (spanned_test a (super_block u) yields also (span_of a (super_block u)) (Ok (block_spans a u (blocks u) 0)))
      unfolding super_spans
      super_defined w = rw (d, w) refl

    -- the super blocks from u on
    pub supers_none : (n : ℕ) → n ≤ u → supers_from a (n - u) u ≡ Ok []
    unfolding supers_from
    supers_none n h = let z : n - u ≡ 0 = omega arith in rw z refl

    pub supers_next : (n : ℕ) → u < n → supers_from a (n - u) u ≡ joined (super_spans a u) (supers_from a (n - (u + 1)) (u + 1))
    unfolding supers_from
    supers_next n h = rw (less n u h) refl

    -- the data blocks of super block u from k on
    module _ (n k : ℕ) where
      pub blocks_none : n ≤ k → block_spans a u (n - k) k ≡ []
      unfolding block_spans
      blocks_none h = let z : n - k ≡ 0 = omega arith in rw z refl

      pub blocks-undefined : k < n → block_undefined a u k ≡ true
          → block_spans a u (n - k) k ≡ block_spans a u (n - (k + 1)) (k + 1)
      unfolding block_spans
      blocks-undefined h e = rw (less n k h, e) refl

      pub blocks_defined : k < n → block_undefined a u k ≡ false
          → block_spans a u (n - k) k ≡ span_of a (data_block u k) ∷ block_spans a u (n - (k + 1)) (k + 1)
      unfolding block_spans
      blocks_defined h e = rw (less n k h, e) refl
