-- `fa_index::count::count_walk` meets its contract. Assumes nothing.
use mathlib.Core.Bool.{false}
use mathlib.Core.Path.{◌≡◌, sym, ◌∙◌}
use Rattle.std.proofs.Common.{rules}
use Rattle.std.specs.Prelude.{Ok}
use Rattle.elements.specs.Values.{elements_of}
use Rattle.fa_header.specs.Served.{fixed_served_test}
use Rattle.fa_blocks.specs.FixedArray.{never_stored}
use Rattle.fa_blocks.specs.Blocks.{fixed_block_test}
use Rattle.fa_blocks.specs.Values.{fixed_of}
use Rattle.fa_blocks.proofs.FixedBlocks.{block_inside}
use Rattle.fa_walk.proofs.Room.{elements_inside}
use Rattle.fa_index.proofs.Positions.{first_is}
use Rattle.fa_index.proofs.Heads.{walk_unserved, walk_never, walk_refused, walk_paged, walk_unpaged}
use Rattle.fa_index.proofs.count.count_walk.Goals.{In_ok-served_test, In_ok-test_block}
use Rattle.fa_index.proofs.count.count_walk.Goals as goal

pub returns-in_err-served_test : goal.returns-in_err-served_test
returns-in_err-served_test c = λ grid n r.
    let a = c.args in
    let x = walk_unserved (fixed_of a.file.now a.array) (elements_of a.file.now a.reader.now grid n) _ (sym c.served_test.ensures ∙ c.in_err-served_test.was) in
    search rules

-- the array is served
served : (c : In_ok-served_test) → fixed_served_test c.args.array.header ≡ Ok tt
served c = sym c.served_test.ensures ∙ c.in_ok-served_test.was

pub returns-then-never_stored : goal.returns-then-never_stored
returns-then-never_stored c = λ grid n r.
    walk_never _ _ (served (goal.at.returns-then-never_stored c).In_ok-served_test) (sym (c.never_stored.ensures _) ∙ c.if-never_stored.true)

pub returns-in_err-test_block : goal.returns-in_err-test_block
returns-in_err-test_block c = λ grid n r.
    let a = c.args in
    let x = walk_refused (fixed_of a.file.now a.array) (elements_of a.file.now a.reader.now grid n) (served (goal.at.returns-in_err-test_block c).In_ok-served_test) (sym (c.never_stored.ensures _) ∙ c.if-never_stored.false) _ (sym c.test_block.ensures ∙ c.in_err-test_block.was) in
    search rules

-- its data block has passed its test
stored : (c : In_ok-test_block) → never_stored (fixed_of c.args.file.now c.args.array) ≡ false
stored c = sym (c.never_stored.ensures _) ∙ c.if-never_stored.false

passed : (c : In_ok-test_block) → fixed_block_test (fixed_of c.args.file.now c.args.array) ≡ Ok tt
passed c = sym c.test_block.ensures ∙ c.in_ok-test_block.was

pub invariant_of-count_pages-clause-inside : goal.invariant_of-count_pages-clause-inside
invariant_of-count_pages-clause-inside c = block_inside _ (passed (goal.at.invariant_of-count_pages-clause-inside c).In_ok-test_block)

pub returns-then-is_paged : goal.returns-then-is_paged
returns-then-is_paged c = λ grid n r.
    let at = goal.at.returns-then-is_paged c in
    c.count_pages.ensures grid n r
    ∙ walk_paged _ _ (served at.In_ok-served_test) (stored at.In_ok-test_block) (passed at.In_ok-test_block) (sym c.is_paged.ensures ∙ c.if-is_paged.true)

pub invariant_of-element_position-clause-inside : goal.invariant_of-element_position-clause-inside
invariant_of-element_position-clause-inside c = block_inside _ (passed (goal.at.invariant_of-element_position-clause-inside c).In_ok-test_block)

pub count_elements-requires : goal.count_elements-requires
count_elements-requires c =
    let q = sym c.is_paged.ensures ∙ c.if-is_paged.false in
    let a = fixed_of c.args.file.now c.args.array in
    rw (← c.requires.formed, c.element_position-pos.ensures ∙ first_is a q) (elements_inside a (passed (goal.at.count_elements-requires c).In_ok-test_block) q)

pub returns : goal.returns
returns c = λ grid n r.
    let at = goal.at.returns c in
    let q = sym c.is_paged.ensures ∙ c.if-is_paged.false in
    c.count_elements.ensures grid n r
    ∙ walk_unpaged _ _ (served at.In_ok-served_test) (stored at.In_ok-test_block) (passed at.In_ok-test_block) q _ c.element_position-pos.ensures
