-- What the code's values stand for: stepping into a structure.
use Rattle.std.specs.Prelude.{ℕ, ◌≡◌, true, false, Err, None, Ok, Option, Some}
use Rattle.structures.specs.declared.enter.Ahead.{Ahead}
use Rattle.structures.specs.Entered.{TestedBy}
use Rattle.ea_blocks.specs.Array.{Array}
use Rattle.ea_blocks.specs.Structures.{Structure, super_block, data_block, data_page, test_of, is_direct}
use Rattle.ea_blocks.specs.Structures.{super_block_at, block_at, data_page_at}
use Rattle.ea_blocks.specs.Structures.{super_undefined, block_undefined, page_set}
use Rattle.refusal.specs.Refusals.{Outcome}

-- A test that was made ahead of its turn, of one of the structures that `structure` numbers, has the result of that
-- structure's test.
abbrev pub TestedAhead : Array → (ℕ → Structure) → Option Ahead → Type 0
TestedAhead a structure ahead = TestedBy (λ (i : ℕ). test_of a (structure i)) ahead

-- Super block u: its pointer is undefined; it has passed its test; the index block names its data blocks, and it has no
-- place; or its test refuses it.
abbrev pub EnteredSuper : Array → ℕ → Outcome (Option (Option ℕ)) → Type 0
EnteredSuper a u (Ok None) = (is_direct a u ≡ false) × (super_undefined a u ≡ true)
EnteredSuper a u (Ok (Some None)) = is_direct a u ≡ true
EnteredSuper a u (Ok (Some (Some at))) =
    (is_direct a u ≡ false) × (super_undefined a u ≡ false) × (test_of a (super_block u) ≡ Ok tt)
    × (at ≡ super_block_at a u)
EnteredSuper a u (Err r) =
    (is_direct a u ≡ false) × (super_undefined a u ≡ false)
    × (test_of a (super_block u) ≡ Err r)

-- Data block k of super block u: its pointer is undefined, it has passed its test, or its test refuses it.
abbrev pub EnteredBlock : Array → ℕ → ℕ → Outcome (Option ℕ) → Type 0
EnteredBlock a u k (Ok None) = block_undefined a u k ≡ true
EnteredBlock a u k (Ok (Some at)) =
    (block_undefined a u k ≡ false) × (test_of a (data_block u k) ≡ Ok tt) × (at ≡ block_at a u k)
EnteredBlock a u k (Err r) = (block_undefined a u k ≡ false) × (test_of a (data_block u k) ≡ Err r)

-- Page p of it: its bit is clear, it has passed its test, or its test refuses it.
abbrev pub EnteredPage : Array → ℕ → ℕ → ℕ → Outcome (Option ℕ) → Type 0
EnteredPage a u k p (Ok None) = page_set a u k p ≡ false
EnteredPage a u k p (Ok (Some at)) =
    (page_set a u k p ≡ true) × (test_of a (data_page u k p) ≡ Ok tt)
    × (at ≡ data_page_at a u k p)
EnteredPage a u k p (Err r) = (page_set a u k p ≡ true) × (test_of a (data_page u k p) ≡ Err r)
