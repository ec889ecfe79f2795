-- The induction over the walk of an array: a relation of listings that each step of a walk keeps holds of the walk's
-- parts, where it holds of what is walked behind them, and of the whole walk, where it holds of its end. Assumes
-- nothing.
use Prim.Native.Nat.{ℕ, zero, suc, ◌+◌, ◌*◌, ◌<◌, ◌≤◌}
use mathlib.Core.Path.{◌≡◌, sym, ap, ◌∙◌}
use mathlib.Core.Bool.{true, false, not, ◌&&◌}
use mathlib.Core.List.{[]}
use mathlib.Core.Logic.{inl, inr}
use native.Mathlib.Omega.{arith}
use native.Mathlib.Nat.{mul-le-mul_right}
use borrow.Author.Tests.{leb-true}
use lib.Dec.{leb}
use Rattle.std.specs.Prelude.{Ok}
use Rattle.refusal.specs.Refusals.{Checked}
use Rattle.refusal.proofs.Tests.{both}
use Rattle.fields.specs.Fields.{offset_size_test}
use Rattle.index.specs.Index.{Listing}
use Rattle.elements.specs.Elements.{Elements}
use Rattle.elements.proofs.Induction.{Steps, by_conds, at_slot, lacks_kept, elements_kept, pages_kept}
use Rattle.located.proofs.Paths.{LeadsTo, LeadsNowhere}
use Rattle.ea_header.specs.declared.Parameters.{Parameters}
use Rattle.ea_header.specs.Values.{Served}
use Rattle.ea_geometry.specs.Sizes.{super_blocks, blocks, block_elements, pages}
use Rattle.ea_geometry.specs.Extents.{form_of}
use Rattle.ea_geometry.specs.Place.{in_pages}
use Rattle.ea_geometry.specs.Slots.{first_slot, capacity}
use Rattle.ea_geometry.proofs.Counts.{pages-exact}
use Rattle.ea_geometry.proofs.Places.{in_pages_over, next_slot, first_slot_zero, first_slot_mono}
use Rattle.ea_blocks.specs.Array.{Array}
use Rattle.ea_blocks.specs.Structures.{Structure, index_block, super_block, data_block, data_page, test_of, array_test, pages_of, is_direct, super_undefined, block_undefined, page_set}
use Rattle.ea_blocks.specs.Places.{block_reached}
use Rattle.ea_blocks.proofs.StructureTests.{array_passed}
use Rattle.ea_walk.specs.Walk.{located, block, blocks_from, supers_from, behind_inline, walk}
use Rattle.ea_walk.proofs.Paths.{Ready, ready_reached}
use Rattle.ea_walk.proofs.Slots.{Begins, inline_slots, past_slots, super_slots, undefined_slots, block_slots_lem, page_slots}

-- a data block that is pointed to, and any structure
abbrev BlockPointed : Array → ℕ → ℕ → Type 0
BlockPointed a u k = (u < super_blocks a.parameters) × (k < blocks u) × (block_reached a u k ≡ true)

abbrev pub Pointed : Array → Structure → Type 0
Pointed a index_block = Unit {0}
Pointed a (super_block u) = (u < super_blocks a.parameters) × (is_direct a u ≡ false) × (super_undefined a u ≡ false)
Pointed a (data_block u k) = BlockPointed a u k
Pointed a (data_page u k p) =
    BlockPointed a u k × (in_pages a.parameters u ≡ true) × (p < pages a.parameters u) × (page_set a u k p ≡ true)

-- elements in the array's form, a relation that the steps of a walk over them keep, and among the walk's tests
-- those of the structures that are pointed to
module _ (a : Array) (e : Elements) (form : form_of a.parameters a.offset_size ≡ e.form) {Tests : Checked → Type 0} {R : ℕ → Listing → Listing → Type 0}
    (steps : Steps e (LeadsTo (located a e)) (LeadsNowhere (located a e)) Tests R) (tests : (z : Structure) → Pointed a z → Tests (test_of a z)) where
  abbrev h : Parameters
  h = a.parameters

  module _ (v : Served a.parameters) (wide : offset_size_test a.offset_size ≡ Ok tt) where
    module _ (u : ℕ) (hu : u < super_blocks a.parameters) where
      module _ (r : Ready a u) (k s : ℕ) (hk : k < blocks u) (hs : Begins a.parameters u k s) (t : block_undefined a u k ≡ false) (x y : Listing)
          (after : R (s + block_elements a.parameters u) x y) where
        pointed : BlockPointed a u k
        pointed = (hu, hk, ready_reached a u k r ∙ ap not t)

        -- a data block
        block_kept : R s (block a e u k s x) (block a e u k s y)
        unfolding block
        block_kept =
            steps.test _ s _ _ (tests (data_block u k) pointed) (λ p.
            by_conds (R s) (in_pages h u)
            (λ q.
            pages_kept steps (pages_of a u k) (pages h u) s (page_slots a e form v wide u hu r k s hk hs t p q) (λ g hg b. tests (data_page u k g) (pointed, q, hg, b)) x y
            (at_slot steps _ _ x y (ap (λ (n : ℕ). s + n) (sym (pages-exact h v u hu (in_pages_over h u q)))) after))
            (λ q. elements_kept steps (block_elements h u) _ s x y (block_slots_lem a e form v wide u hu r k s hk hs t p q) after))

      -- the data blocks of super block u from block k on
      pub blocks_kept : Ready a u → (x y : Listing) → R (first_slot h (u + 1)) x y → (j k s : ℕ) → k + j ≡ blocks u → Begins h u k s
          → R s (blocks_from a e u j k s x) (blocks_from a e u j k s y)
      unfolding blocks_from
      blocks_kept r x y after zero k s hk hs =
          let z : first_slot h (u + 1) ≡ s = (let w : k ≡ blocks u = omega arith in sym (hs ∙ ap (λ (n : ℕ). first_slot h u + n * block_elements h u) w ∙ next_slot h u)) in
          at_slot steps _ s x y z after
      blocks_kept r x y after (suc j) k s hk hs =
          let next = blocks_kept r x y after j (k + 1) (s + block_elements h u) (omega arith) (more hs) in
          by_conds (R s) (is_direct a u && leb e.count s)
          (λ b. let c = leb-true e.count s (both (is_direct a u) (leb e.count s) b).1 in steps.past s _ x y c (end c hs) after)
          (λ b. by_conds (R s) (block_undefined a u k)
          (λ t. lacks_kept steps (block_elements h u) s _ _ (undefined_slots a e form v wide u hu r k s (omega arith) hs t) next)
          (λ t. block_kept r k s (omega arith) hs t _ _ next))
        where
          more : Begins h u k s → Begins h u (k + 1) (s + block_elements h u)
          more b = omega arith

          end : e.count ≤ s → Begins h u k s → e.count ≤ first_slot h (u + 1)
          end c b = let n = next_slot h u in let m = mul-le-mul_right {m = k} {n = blocks u} (block_elements h u) (omega arith) in omega arith

      -- a super block whose pointer is undefined
      gone_kept : is_direct a u ≡ false → super_undefined a u ≡ true → (x y : Listing) → R (first_slot h (u + 1)) x y → R (first_slot h u) x y
      gone_kept d t x y r =
          lacks_kept steps (blocks u * block_elements h u) (first_slot h u) x y (super_slots a e form v wide u hu d t)
          (at_slot steps _ _ x y (sym (next_slot h u)) r)

    -- the super blocks from u on
    pub supers_kept : (x y : Listing) (j u s : ℕ) → u + j ≤ super_blocks h → s ≡ first_slot h u → R (first_slot h (u + j)) x y
        → R s (supers_from a e j u s x) (supers_from a e j u s y)
    unfolding supers_from
    supers_kept x y zero u s hu hs r =
        at_slot steps _ s x y (ap (first_slot h) (let z : u + 0 ≡ u = omega arith in z) ∙ sym hs) r
    supers_kept x y (suc j) u s hu hs r =
        let lt : u < super_blocks h = omega arith in
        let f : s + blocks u * block_elements h u ≡ first_slot h (u + 1) = ap (λ (n : ℕ). n + blocks u * block_elements h u) hs ∙ next_slot h u in
        let z : u + suc j ≡ u + 1 + j = omega arith in
        let next = at_slot steps _ _ _ _ f (supers_kept x y j (u + 1) (s + blocks u * block_elements h u) (omega arith) f (at_slot steps _ _ x y (ap (first_slot h) z) r)) in
        let within : Ready a u → R s (blocks_from a e u (blocks u) 0 s (behind x)) (blocks_from a e u (blocks u) 0 s (behind y)) =
        (λ w. blocks_kept u lt w _ _ next (blocks u) 0 s (omega arith) (zero_more hs)) in
        by_conds (R s) (leb e.count s)
        (λ t. let c = leb-true e.count s t in steps.past s _ x y c (end c hs) r)
        (λ t. by_conds (R s) (is_direct a u)
        (λ d. within (record { named = inl d }))
        (λ d. by_conds (R s) (super_undefined a u)
        (λ w. at_slot steps _ s _ _ (sym hs) (gone_kept u lt d w _ _ next))
        (λ w. steps.test _ s _ _ (tests (super_block u) (lt, d, w)) (λ p. within (record { named = inr (d, w, p) })))))
      where
        behind : Listing → Listing
        behind = supers_from a e j (u + 1) (s + blocks u * block_elements h u)

        zero_more : s ≡ first_slot h u → s ≡ first_slot h u + 0 * block_elements h u
        zero_more b = omega arith

        end : e.count ≤ s → s ≡ first_slot h u → e.count ≤ first_slot h (u + suc j)
        end c b = let m = first_slot_mono h u (u + suc j) (omega arith) in omega arith

  -- the whole walk, whose end is the empty list
  module _ (inner : Tests (array_test a)) (width : Tests (offset_size_test a.offset_size)) (end : (s : ℕ) → e.count ≤ s → R s (Ok []) (Ok [])) where
    -- past the last super block there is nothing
    past_kept : (s : ℕ) → Served h → capacity h ≤ s → R s (Ok []) (Ok [])
    past_kept s v c =
        lacks_kept steps e.count s _ _ (λ i hi. past_slots a e form v s c i) (end (s + e.count) (omega arith))

    behind_kept : Served h → R (0 + h.idx_blk_elmts) (behind_inline a e) (behind_inline a e)
    unfolding behind_inline capacity
    behind_kept v =
        let z : h.idx_blk_elmts ≡ 0 + h.idx_blk_elmts = omega arith in
        at_slot steps _ _ _ _ z
        (by_conds (R h.idx_blk_elmts) (leb e.count h.idx_blk_elmts)
        (λ t. end h.idx_blk_elmts (leb-true e.count h.idx_blk_elmts t))
        (λ t. steps.test _ _ _ _ width (λ w.
        supers_kept v w _ _ (super_blocks h) 0 h.idx_blk_elmts (omega arith) (sym (first_slot_zero h))
        (past_kept _ v (let q : 0 + super_blocks h ≡ super_blocks h = omega arith in rw q (omega arith))))))

    pub walk_kept : R 0 (walk a e) (walk a e)
    unfolding walk
    walk_kept =
        steps.test _ 0 _ _ inner (λ t.
        let v = (array_passed a t).0 in
        elements_kept steps h.idx_blk_elmts _ 0 _ _ (inline_slots a e form v) (behind_kept v))
