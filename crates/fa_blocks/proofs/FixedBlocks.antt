-- Laws of a fixed array's structures and their tests: a structure that has passed lies in the file. Assumes nothing.
use Prim.Native.Nat.{ℕ, ◌+◌, ◌*◌, ◌^◌, ◌<◌, ◌≤◌}
use mathlib.Core.Path.{◌≡◌, ◌∙◌}
use mathlib.Core.Bool.{true, false, cond}
use native.Mathlib.Nat.{mul-le-mul_right}
use native.Mathlib.Omega.{arith}
use lib.ListN.{length}
use borrow.Author.Tests.{lt-ltb, le-ltb}
use Rattle.std.specs.Prelude.{Err, None, Ok, Option, Some}
use Rattle.refusal.specs.declared.Refusal.TheVariants.{SpanOverflow}
use Rattle.refusal.specs.Refusals.{figure, largest64, Outcome}
use Rattle.refusal.proofs.Tests.{by_cond, refuse_false, refuse_true, then_first, then_second, then_inv}
use Rattle.structures.specs.declared.Kind.TheVariants.{Page}
use Rattle.structures.specs.Structures.{structure_test}
use Rattle.structures.specs.PageBits.{bit_bytes}
use Rattle.structures.specs.Entered.{entered}
use Rattle.structures.proofs.Entering.{entered_where}
use Rattle.structures.proofs.StructureTests.{structure_inside, figures_structure}
use Rattle.element_form.specs.Form.{room_test}
use Rattle.fa_geometry.specs.Layout.{fixed_form, fixed_stride, is_paged, fixed_pages, fixed_prefix, fixed_element_at, fixed_block_extent, fixed_head_extent, fixed_page_stride, fixed_page_extent, fixed_tested_extent}
use Rattle.fa_blocks.specs.FixedArray.{FixedArray, fixed_block_at}
use Rattle.fa_blocks.specs.Blocks.{fixed_block_test, fixed_page_set, fixed_page_test, fixed_page_position}
use Rattle.fa_blocks.specs.Values.{BlockInside, EnteredFixedPage}

module _ (a : FixedArray) where
  -- a data block that has passed its test has room in its elements, ..
  pub block_room : fixed_block_test a ≡ Ok tt → room_test (fixed_form a.header a.offset_size) ≡ Ok tt
  unfolding fixed_block_test
  block_room t = (then_inv _ _ (then_inv _ _ (then_inv _ _ t).1).1).0

  -- .. and what its test covers lies in the file
  pub block_inside : fixed_block_test a ≡ Ok tt → BlockInside a
  unfolding fixed_block_test
  block_inside t = record { tested = structure_inside _ _ _ _ _ (then_inv _ _ (then_inv _ _ (then_inv _ _ t).1).1).1 }

  module _ (inside : BlockInside a) where
    -- so do the bytes before its elements or page bits, whose number is given as it is
    pub prefix_inside : fixed_block_at a + fixed_prefix a.offset_size ≤ length a.file
    unfolding fixed_tested_extent fixed_block_extent fixed_head_extent fixed_element_at
    prefix_inside =
        by_cond (λ (n : ℕ). fixed_block_at a + n ≤ length a.file → fixed_block_at a + fixed_prefix a.offset_size ≤ length a.file) (is_paged a.header)
        (λ e le. omega arith) (λ e le. omega arith) inside.tested

    -- the head of a paged data block lies in the file, with its page bits, ..
    pub head_inside : is_paged a.header ≡ true → fixed_block_at a + fixed_prefix a.offset_size + bit_bytes (fixed_pages a.header) + 4 ≤ length a.file
    unfolding fixed_tested_extent fixed_head_extent
    head_inside paged = let k = rw paged at inside.tested in omega arith

    -- .. and an unpaged one with all of its elements
    pub unpaged_inside : is_paged a.header ≡ false → (s : ℕ) → s ≤ a.header.num_elements
        → fixed_block_at a + fixed_prefix a.offset_size + s * fixed_stride a.header a.offset_size + 4 ≤ length a.file
    unfolding fixed_tested_extent fixed_block_extent fixed_element_at
    unpaged_inside unpaged s le =
        let k = rw unpaged at inside.tested in
        let m = mul-le-mul_right {m = s} {n = a.header.num_elements} (fixed_stride a.header a.offset_size) le in omega arith

  module _ (p : ℕ) where
    -- a page that has passed its test lies in the file, ..
    pub page_inside : fixed_page_test a p ≡ Ok tt → fixed_page_position a p + fixed_page_extent a.header a.offset_size p ≤ length a.file
    unfolding fixed_page_test
    page_inside t = structure_inside _ _ _ _ _ (then_inv _ _ t).1

    -- .. so that its position is none past 2^64 − 1
    pub page_figure : length a.file < 2 ^ 63 → fixed_page_test a p ≡ Ok tt → figure (fixed_page_position a p) ≡ fixed_page_position a p
    unfolding figure
    page_figure short t = omega (arith, page_inside t)

    -- the test of a page whose number times the stride is past 2^64 − 1, ..
    pub page_past : p ≤ largest64 → largest64 < p * fixed_page_stride a.header a.offset_size
        → Err (SpanOverflow p (figure (fixed_page_stride a.header a.offset_size))) ≡ fixed_page_test a p
    unfolding fixed_page_test figure
    page_past le lt = let e : figure p ≡ p = omega arith in rw e (then_first _ _ (refuse_true (SpanOverflow p _) _ (lt-ltb largest64 _ lt)))

    -- .. and of one where it isn't, of its position and extent as they are given
    pub page_tested : length a.file < 2 ^ 63 → p * fixed_page_stride a.header a.offset_size ≤ largest64
        → structure_test a.sum Page a.file (figure (fixed_page_position a p)) (figure (fixed_page_extent a.header a.offset_size p)) ≡ fixed_page_test a p
    unfolding fixed_page_test
    page_tested short le = figures_structure _ _ _ _ _ short ∙ then_second _ _ (refuse_false _ _ (le-ltb largest64 _ le))

    -- what a page comes to where it is stepped into, by its position as it is given
    pub page_entered : (x : Outcome (Option ℕ)) → length a.file < 2 ^ 63
        → x ≡ entered (cond (fixed_page_set a p) (Some (figure (fixed_page_position a p))) None) (fixed_page_test a p) → EnteredFixedPage a p x
    page_entered x short e =
        entered_where (EnteredFixedPage a p) _ _ _ x e (λ s. s) (λ s t. (s, t, page_figure short t)) (λ r s t. (s, t))

    -- a page that was stepped into lies in the file
    pub entered_inside : (at : ℕ) → EnteredFixedPage a p (Ok (Some at)) → at + fixed_page_extent a.header a.offset_size p ≤ length a.file
    entered_inside at e = rw e.2 (page_inside e.1)
