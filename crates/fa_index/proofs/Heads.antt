-- What the walk of a fixed array comes to, by its tests, and whether its data block is stored and paged. Assumes
-- nothing.
use Prim.Native.Nat.{ℕ}
use mathlib.Core.Path.{◌≡◌, refl, ◌∙◌}
use mathlib.Core.Bool.{true, false}
use mathlib.Core.List.{[]}
use Rattle.std.specs.Prelude.{Err, Ok}
use Rattle.refusal.specs.declared.Refusal.{Refusal}
use Rattle.refusal.specs.Outcome.{◌yields◌}
use Rattle.refusal.specs.Values.{counted_of}
use Rattle.elements.specs.Elements.{Elements}
use Rattle.elements.specs.Runs.{elements_from, pages_from}
use Rattle.fa_header.specs.Served.{fixed_served_test}
use Rattle.fa_geometry.specs.Layout.{is_paged, fixed_pages}
use Rattle.fa_blocks.specs.FixedArray.{FixedArray, never_stored}
use Rattle.fa_blocks.specs.Blocks.{fixed_block_test, fixed_pages_of, fixed_position}
use Rattle.fa_walk.specs.Walk.{fixed_in_block, fixed_walk}
use Rattle.fa_index.proofs.Positions.{first_is}

module _ (a : FixedArray) (e : Elements) where
  pub walk_unserved : (r : Refusal) → fixed_served_test a.header ≡ Err r → Err r ≡ counted_of (fixed_walk a e)
  unfolding fixed_walk ◌yields◌ counted_of
  walk_unserved r t = rw t refl

  module _ (v : fixed_served_test a.header ≡ Ok tt) where
    pub walk_never : never_stored a ≡ true → Ok 0 ≡ counted_of (fixed_walk a e)
    unfolding fixed_walk ◌yields◌ counted_of
    walk_never n = rw (v, n) refl

    module _ (n : never_stored a ≡ false) where
      pub walk_refused : (r : Refusal) → fixed_block_test a ≡ Err r → Err r ≡ counted_of (fixed_walk a e)
      unfolding fixed_walk ◌yields◌ counted_of
      walk_refused r t = rw (v, n, t) refl

      module _ (t : fixed_block_test a ≡ Ok tt) where
        pub walk_paged : is_paged a.header ≡ true → counted_of (pages_from e (fixed_pages_of a) (fixed_pages a.header) 0 0 (Ok [])) ≡ counted_of (fixed_walk a e)
        unfolding fixed_in_block fixed_walk ◌yields◌
        walk_paged q = rw (v, n, t, q) refl

        pub walk_unpaged : is_paged a.header ≡ false → (pos : ℕ) → pos ≡ fixed_position a 0
            → counted_of (elements_from e pos a.header.num_elements 0 (Ok [])) ≡ counted_of (fixed_walk a e)
        unfolding fixed_in_block fixed_walk ◌yields◌
        walk_unpaged q pos p = rw (v, n, t, q, p ∙ first_is a q) refl
