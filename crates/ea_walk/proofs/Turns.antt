-- One turn of each loop of the walk: a law for each way it can go, in the loop's own terms. Assumes nothing.
use Prim.Native.Nat.{ℕ, zero, suc, ◌+◌, ◌-◌, ◌*◌, ◌<◌, ◌≤◌}
use mathlib.Core.Path.{◌≡◌, refl}
use mathlib.Core.Bool.{true, false, ◌&&◌}
use native.Mathlib.Omega.{arith}
use native.Mathlib.Nat.{sub-zero}
use borrow.Author.Tests.{le-leb, lt-leb}
use lib.Dec.{leb}
use Rattle.std.specs.Prelude.{Err, Ok}
use Rattle.refusal.specs.declared.Refusal.{Refusal}
use Rattle.refusal.specs.Outcome.{◌yields◌}
use Rattle.index.specs.Index.{Listing}
use Rattle.elements.specs.Elements.{Elements}
use Rattle.elements.specs.Runs.{elements_from, pages_from}
use Rattle.ea_geometry.specs.Sizes.{blocks, block_elements, pages}
use Rattle.ea_geometry.specs.Extents.{block_element_at}
use Rattle.ea_geometry.specs.Place.{in_pages}
use Rattle.ea_geometry.proofs.Counts.{less}
use Rattle.ea_blocks.specs.Array.{Array}
use Rattle.ea_blocks.specs.Structures.{super_block, data_block, test_of, pages_of, is_direct, block_at, super_undefined, block_undefined}
use Rattle.ea_walk.specs.Walk.{block, blocks_from, supers_from}

-- from the count on nothing is walked
pub supers_past : (a : Array) (e : Elements) (j u s : ℕ) (rest : Listing) → e.count ≤ s → supers_from a e j u s rest ≡ rest
unfolding supers_from
supers_past a e zero u s rest h = refl
supers_past a e (suc j) u s rest h = rw (le-leb e.count s h) refl

module _ (a : Array) (e : Elements) (n u s : ℕ) (rest : Listing) where
  abbrev pub next_super : Listing
  next_super = supers_from a e (n - (u + 1)) (u + 1) (s + blocks u * block_elements a.parameters u) rest

  pub supers_none : n ≤ u → supers_from a e (n - u) u s rest ≡ rest
  unfolding supers_from
  supers_none h = let z : n - u ≡ 0 = omega arith in rw z refl

  module _ (h : u < n) (b : s < e.count) where
    pub supers_direct : is_direct a u ≡ true → supers_from a e (n - u) u s rest ≡ blocks_from a e u (blocks u - 0) 0 s next_super
    unfolding supers_from
    supers_direct d = rw (less n u h, lt-leb e.count s b, d, sub-zero) refl

    module _ (d : is_direct a u ≡ false) where
      pub supers_undefined : super_undefined a u ≡ true → supers_from a e (n - u) u s rest ≡ next_super
      unfolding supers_from
      supers_undefined w = rw (less n u h, lt-leb e.count s b, d, w) refl

      module _ (w : super_undefined a u ≡ false) where
        pub supers_refused : (r : Refusal) → test_of a (super_block u) ≡ Err r → supers_from a e (n - u) u s rest ≡ Err r
        unfolding supers_from ◌yields◌
        supers_refused r t = rw (less n u h, lt-leb e.count s b, d, w, t) refl

        pub supers_tested : test_of a (super_block u) ≡ Ok tt → supers_from a e (n - u) u s rest ≡ blocks_from a e u (blocks u - 0) 0 s next_super
        unfolding supers_from ◌yields◌
        supers_tested t = rw (less n u h, lt-leb e.count s b, d, w, t, sub-zero) refl

module _ (a : Array) (e : Elements) (u n k s : ℕ) (rest : Listing) where
  abbrev pub next_block : Listing
  next_block = blocks_from a e u (n - (k + 1)) (k + 1) (s + block_elements a.parameters u) rest

  pub blocks_none : n ≤ k → blocks_from a e u (n - k) k s rest ≡ rest
  unfolding blocks_from
  blocks_none h = let z : n - k ≡ 0 = omega arith in rw z refl

  module _ (h : k < n) where
    -- a block that the index block names, at or past the count
    pub blocks_ended : is_direct a u ≡ true → e.count ≤ s → blocks_from a e u (n - k) k s rest ≡ rest
    unfolding blocks_from
    blocks_ended d b = rw (less n k h, d, le-leb e.count s b) refl

    module _ (b : is_direct a u && leb e.count s ≡ false) where
      pub blocks-undefined : block_undefined a u k ≡ true → blocks_from a e u (n - k) k s rest ≡ next_block
      unfolding blocks_from
      blocks-undefined w = rw (less n k h, b, w) refl

      module _ (w : block_undefined a u k ≡ false) where
        pub blocks_refused : (r : Refusal) → test_of a (data_block u k) ≡ Err r → blocks_from a e u (n - k) k s rest ≡ Err r
        unfolding blocks_from block ◌yields◌
        blocks_refused r t = rw (less n k h, b, w, t) refl

        module _ (t : test_of a (data_block u k) ≡ Ok tt) where
          pub blocks_unpaged : in_pages a.parameters u ≡ false
              → blocks_from a e u (n - k) k s rest
              ≡ elements_from e (block_at a u k + block_element_at a.parameters a.offset_size 0) (block_elements a.parameters u) s next_block
          unfolding blocks_from block ◌yields◌
          blocks_unpaged q = rw (less n k h, b, w, t, q) refl

          pub blocks_paged : in_pages a.parameters u ≡ true
              → blocks_from a e u (n - k) k s rest ≡ pages_from e (pages_of a u k) (pages a.parameters u - 0) 0 s next_block
          unfolding blocks_from block ◌yields◌
          blocks_paged q = rw (less n k h, b, w, t, q, sub-zero) refl

-- where the count doesn't end a block: it is named in its super block, or below the count
pub not_direct : (a : Array) (e : Elements) (u s : ℕ) → is_direct a u ≡ false → is_direct a u && leb e.count s ≡ false
not_direct a e u s d = rw d refl

pub below_count : (a : Array) (e : Elements) (u s : ℕ) → is_direct a u ≡ true → s < e.count → is_direct a u && leb e.count s ≡ false
below_count a e u s d b = rw (d, lt-leb e.count s b) refl
