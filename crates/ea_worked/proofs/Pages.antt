-- The file with pages: its list and lookups in it, and what is refused where one of its bytes is another, all computed.
use Prim.Native.Nat.{ℕ}
use mathlib.Core.Path.{◌≡◌, refl}
use mathlib.Core.Bool.{false}
use mathlib.Core.List.{[], ◌∷◌, ◌++◌, map}
use lib.ListN.{length, take, set, replicate}
use Rattle.std.specs.Prelude.{Err, None, Ok, Some}
use Rattle.ea_header.specs.Header.{header_at}
use Rattle.located.specs.Located.{path}
use Rattle.ea_walk.specs.Walk.{located, behind_inline}
use Rattle.ea_worked.specs.Files.{Sample, sample_on, sample_at, list_of, lookup_in, list_at, lookup_at, list_in}
use Rattle.ea_worked.specs.Pages.{file, grid_in, grid, sample, record_at_slot, chunks, spoiled, Spoiling, on_path, beside_path, unread}
use Rattle.ea_worked.proofs.Opened.{opened}
use Rattle.refusal.specs.declared.Refusal.TheVariants.{Checksum, Corner, OffsetSize, PastEnd, Unlimited}

pub long : length file ≡ 383
unfolding opened file
long = refl

pub listed : list_at file 0 2 2 grid 4 ≡ Ok chunks
unfolding opened file grid chunks
listed = refl

-- in page 1 of a block whose page 0 is clear
pub found : lookup_at file 0 2 2 grid 4 (20 ∷ 10 ∷ []) ≡ Ok (Some (record_at_slot 10 (20 ∷ 10 ∷ [])))
unfolding opened file grid
found = refl

-- slot 9 in a clear page, slot 2 in an undefined super block, slot 4 in an undefined data block, slot 12 with an
-- undefined address, slot 17 past the count
pub absent : map (lookup_in sample) ((10 ∷ 10 ∷ []) ∷ (20 ∷ 0 ∷ []) ∷ (0 ∷ 5 ∷ []) ∷ (0 ∷ 15 ∷ []) ∷ (10 ∷ 20 ∷ []) ∷ []) ≡ replicate 5 (Ok None)
unfolding opened file grid sample
absent = refl

-- slot 11 is no chunk's: its corner is not below the extents
pub dropped : lookup_in sample (30 ∷ 10 ∷ []) ≡ Err Corner
unfolding opened file grid sample
dropped = refl

-- one byte another: the list refuses ..
pub spoils : map (λ (x : Spoiling). list_of (spoiled x.pos x.byte)) (on_path ++ beside_path) ≡ map (λ (x : Spoiling). Err x.refusal) (on_path ++ beside_path)
unfolding opened file grid spoiled on_path beside_path
spoils = refl

-- .. or is the same
pub spares : map (λ (pos : ℕ). list_of (spoiled pos 0)) unread ≡ map (λ (pos : ℕ). Ok chunks) unread
unfolding opened file grid chunks spoiled unread
spares = refl

-- one byte fewer: the index block's end, before its signature and its sum
pub cuts : list_of (sample_at (take 382 file) 0 2 2 grid 4) ≡ Err (PastEnd 383 382)
unfolding opened file grid
cuts = refl

-- the walk's refusal comes before 9
pub walked : list_in (spoiled 146 0x2e) 0 ≡ Err (Checksum 814 813)
unfolding opened file grid spoiled
walked = refl

-- A lookup tests its path, and only that.
pub tested : map (λ (x : Spoiling). lookup_in (spoiled x.pos x.byte) (20 ∷ 10 ∷ [])) on_path ≡ map (λ (x : Spoiling). Err x.refusal) on_path
unfolding opened file grid spoiled on_path
tested = refl

pub untested : map (λ (x : Spoiling). lookup_in (spoiled x.pos x.byte) (20 ∷ 10 ∷ [])) beside_path
    ≡ map (λ (x : Spoiling). Ok (Some (record_at_slot 10 (20 ∷ 10 ∷ [])))) beside_path
unfolding opened file grid spoiled beside_path
untested = refl

-- The super block that begins at the count is not reached, nor a data block that the index block names.
pub unreached : list_of (sample_at (set (set file 20 16) 328 0) 0 2 2 grid 4) ∷ list_of (sample_at (set (set file 20 1) 30 0) 0 2 2 grid 4) ∷ []
    ≡ Ok (take 5 chunks) ∷ Ok (take 1 chunks) ∷ []
unfolding opened file grid chunks
unreached = refl

-- The grid's refusals come first, then a corner's, then 27.
pub grid-first : list_of (sample_at (set file 9 3) 0 2 2 (grid_in false) 4) ≡ Err Unlimited
unfolding opened file
grid-first = refl

pub corner_second : lookup_in (sample_at file 0 2 2 (grid_in false) 4) (5 ∷ []) ∷ lookup_in (spoiled 9 3) (5 ∷ 10 ∷ []) ∷ []
    ≡ Err Unlimited ∷ Err Corner ∷ []
unfolding opened file grid spoiled
corner_second = refl

-- A pointer with offset size 3 is 1.
abbrev narrow : Sample
narrow = sample_on file (header_at file 0 2 2) 3 grid 4

pub pointer_width : behind_inline narrow.array narrow.elements ≡ Err (OffsetSize 3)
unfolding opened file grid
pointer_width = refl

pub pointer_width_on_path : path (located narrow.array narrow.elements) 10 ≡ Err (OffsetSize 3)
unfolding opened file grid
pointer_width_on_path = refl
