-- The induction over the walk of a fixed array: a relation of listings that each step of a walk keeps holds of the whole
-- walk, where it holds of its end. Assumes nothing.
use Prim.Native.Nat.{ℕ, ◌<◌, ◌≤◌}
use mathlib.Core.Path.{◌≡◌}
use mathlib.Core.Bool.{true, false}
use mathlib.Core.List.{[]}
use native.Mathlib.Omega.{arith}
use Rattle.std.specs.Prelude.{Ok}
use Rattle.index.specs.Index.{Listing}
use Rattle.elements.specs.Elements.{Elements}
use Rattle.elements.proofs.Induction.{Steps, by_conds, lacks_kept, elements_kept, pages_kept}
use Rattle.located.proofs.Paths.{LeadsTo, LeadsNowhere}
use Rattle.fa_header.specs.Served.{fixed_served_test}
use Rattle.fa_geometry.specs.Layout.{fixed_form, is_paged, fixed_pages}
use Rattle.fa_geometry.proofs.Pages.{pages_hold}
use Rattle.fa_blocks.specs.FixedArray.{FixedArray, never_stored}
use Rattle.fa_blocks.specs.Blocks.{fixed_block_test, fixed_page_set, fixed_page_test, fixed_pages_of}
use Rattle.fa_walk.specs.Walk.{fixed_located, fixed_in_block, fixed_walk}
use Rattle.fa_walk.proofs.Paths.{never_stored_lem}
use Rattle.fa_walk.proofs.Slots.{block_slots_lem, page_slots}
use Rattle.refusal.specs.Refusals.{Checked}

-- all elements of the array, in its form, and a relation that the steps of a walk over them keep, whose end is the
-- empty list
module _ (a : FixedArray) (e : Elements) (form : fixed_form a.header a.offset_size ≡ e.form) (count : e.count ≡ a.header.num_elements)
    {Tests : Checked → Type 0} {R : ℕ → Listing → Listing → Type 0} (steps : Steps e (LeadsTo (fixed_located a e)) (LeadsNowhere (fixed_located a e)) Tests R)
    (end : (s : ℕ) → e.count ≤ s → R s (Ok []) (Ok [])) where
  -- its pages are among the walk's tests, ..
  module _ (pages : (p : ℕ) → p < fixed_pages a.header → fixed_page_set a p ≡ true → Tests (fixed_page_test a p)) where
    in_block_kept : never_stored a ≡ false → fixed_block_test a ≡ Ok tt → R 0 (fixed_in_block a e) (fixed_in_block a e)
    unfolding fixed_in_block
    in_block_kept n t =
        by_conds (R 0) (is_paged a.header)
        (λ q. pages_kept steps (fixed_pages_of a) (fixed_pages a.header) 0 (page_slots a e form n t q) pages _ _
        (end _ (omega (arith, pages_hold a.header))))
        (λ q. elements_kept steps a.header.num_elements _ 0 _ _ (λ i lt. block_slots_lem a e form n t q i) (end _ (omega arith)))

    -- .. and what is tested before them
    pub walk_kept : Tests (fixed_served_test a.header) → Tests (fixed_block_test a) → R 0 (fixed_walk a e) (fixed_walk a e)
    unfolding fixed_walk
    walk_kept served block =
        steps.test _ 0 _ _ served (λ w.
        by_conds (R 0) (never_stored a)
        (λ n. lacks_kept steps e.count 0 _ _ (λ i lt. never_stored_lem a e _ n) (end _ (omega arith)))
        (λ n. steps.test _ 0 _ _ block (in_block_kept n)))
