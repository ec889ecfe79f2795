-- Where the path to a slot of a fixed array ends, by what stepping into the structures on it has found. Assumes nothing.
use Prim.Native.Nat.{ℕ, ◌+◌, ◌*◌, ◌<◌}
use mathlib.Core.Path.{◌≡◌, refl, subst}
use mathlib.Core.Bool.{true, false}
use Rattle.std.specs.Prelude.{Err, None, Ok, Option, Some}
use Rattle.refusal.specs.declared.Refusal.{Refusal}
use Rattle.refusal.specs.Refusals.{Outcome}
use Rattle.located.proofs.Paths.{LeadsTo}
use Rattle.fa_geometry.specs.Layout.{fixed_form, fixed_stride, is_paged, page_of_slot}
use Rattle.fa_blocks.specs.FixedArray.{FixedArray, never_stored}
use Rattle.fa_blocks.specs.Blocks.{fixed_block_test, fixed_position}
use Rattle.fa_blocks.specs.Values.{EnteredFixedPage}
use Rattle.fa_walk.specs.Walk.{fixed_located}
use Rattle.fa_walk.proofs.Paths.{never_stored_lem, block_refused, in_block_lem, in_clear, in_page, page_refused}
use Rattle.walked_index.specs.PathEnds.{PathEnds}
use Rattle.walked_index.proofs.PathEnds.{ends_nowhere, ends_refused, ends_at}
use Rattle.fa_index.proofs.Positions.{page_of, within, element_inside, entry_at_lem, entry_inside}

module _ (a : FixedArray) (s : ℕ) where
  abbrev pub Ends : Outcome (Option ℕ) → Type 0
  Ends = PathEnds (fixed_located a) a.file (fixed_form a.header a.offset_size) s

  -- where nothing was ever stored
  pub never_ends : never_stored a ≡ true → Ends (Ok None)
  never_ends n = ends_nowhere (λ e. never_stored_lem a e s n)

  module _ (n : never_stored a ≡ false) where
    -- at the data block
    pub block_ends : (r : Refusal) → fixed_block_test a ≡ Err r → Ends (Err r)
    block_ends r t = ends_refused r (λ e. block_refused a e s n r t)

    module _ (t : fixed_block_test a ≡ Ok tt) (lt : s < a.header.num_elements) where
      -- in it, read unpaged
      pub unpaged_ends : is_paged a.header ≡ false → Ends (Ok (Some (fixed_position a s)))
      unpaged_ends q = ends_at (λ e. refl) _ (λ e. in_block_lem a e s n t q) (element_inside a q t s lt)

      -- at its page, whose bit is clear or which is refused, and in that
      module _ (q : is_paged a.header ≡ true) where
        pub clear_ends : EnteredFixedPage a (page_of a.header s) (Ok None) → Ends (Ok None)
        unfolding page_of_slot
        clear_ends y = ends_nowhere (λ e. in_clear a e s n t q y)

        pub refused_ends : (r : Refusal) → EnteredFixedPage a (page_of a.header s) (Err r) → Ends (Err r)
        unfolding page_of_slot
        refused_ends r y = ends_refused r (λ e. page_refused a e s n t q y.0 r y.1)

        pub paged_ends : (at : ℕ) → EnteredFixedPage a (page_of a.header s) (Ok (Some at)) → Ends (Ok (Some (at + within a.header s * fixed_stride a.header a.offset_size)))
        unfolding page_of_slot
        paged_ends at y =
            rw y.2 (ends_at (λ e. refl) _ (λ e. subst (LeadsTo (fixed_located a e) s) (entry_at_lem a s q) (in_page a e s n t q y.0 y.1)) (entry_inside a s lt y.1))
