-- Where the path to a slot of a fixed array leads: nowhere where nothing was ever stored, else through the data block
-- and, where that is paged, through the slot's page. Assumes nothing.
use Prim.Native.Nat.{ℕ}
use mathlib.Core.Path.{◌≡◌, refl}
use mathlib.Core.Bool.{true, false}
use Rattle.std.specs.Prelude.{Err, Ok}
use Rattle.refusal.specs.declared.Refusal.{Refusal}
use Rattle.refusal.specs.Refusals.{◌then◌}
use Rattle.elements.specs.Elements.{Elements}
use Rattle.located.proofs.Paths.{LeadsTo, LeadsNowhere}
use Rattle.fa_geometry.specs.Layout.{is_paged, page_of_slot}
use Rattle.fa_blocks.specs.FixedArray.{FixedArray, never_stored}
use Rattle.fa_blocks.specs.Blocks.{fixed_block_test, fixed_page_set, fixed_page_test, in_set_page, fixed_reached, fixed_path_test, fixed_position}
use Rattle.fa_walk.specs.Walk.{fixed_located}

module _ (a : FixedArray) (e : Elements) (s : ℕ) where
  pub never_stored_lem : never_stored a ≡ true → LeadsNowhere (fixed_located a e) s
  unfolding fixed_reached fixed_path_test
  never_stored_lem n = record { tested = rw n refl; reach = rw n refl }

  module _ (n : never_stored a ≡ false) where
    -- the data block is refused, or has passed its test
    pub block_refused : (r : Refusal) → fixed_block_test a ≡ Err r → (fixed_located a e).tests s ≡ Err r
    unfolding fixed_path_test ◌then◌
    block_refused r t = rw (n, t) refl

    module _ (t : fixed_block_test a ≡ Ok tt) where
      pub in_block_lem : is_paged a.header ≡ false → LeadsTo (fixed_located a e) s (fixed_position a s)
      unfolding in_set_page fixed_reached fixed_path_test ◌then◌
      in_block_lem q = record { tested = rw (n, t, q) refl; reach = rw (n, q) refl; position = refl }

      -- in a clear page, in a set one that has passed its test, and in one that is refused
      module _ (q : is_paged a.header ≡ true) where
        pub in_clear : fixed_page_set a (page_of_slot a.header s) ≡ false → LeadsNowhere (fixed_located a e) s
        unfolding in_set_page fixed_reached fixed_path_test ◌then◌
        in_clear b = record { tested = rw (n, t, q, b) refl; reach = rw (n, q, b) refl }

        module _ (b : fixed_page_set a (page_of_slot a.header s) ≡ true) where
          pub in_page : fixed_page_test a (page_of_slot a.header s) ≡ Ok tt → LeadsTo (fixed_located a e) s (fixed_position a s)
          unfolding in_set_page fixed_reached fixed_path_test ◌then◌
          in_page d = record { tested = rw (n, t, q, b, d) refl; reach = rw (n, q, b) refl; position = refl }

          pub page_refused : (r : Refusal) → fixed_page_test a (page_of_slot a.header s) ≡ Err r → (fixed_located a e).tests s ≡ Err r
          unfolding in_set_page fixed_path_test ◌then◌
          page_refused r d = rw (n, t, q, b, d) refl
