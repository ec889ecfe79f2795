-- What the code's values stand for.
use Rattle.std.specs.Prelude.{ℕ, ◌+◌, ◌≤◌, ◌≡◌, true, false, List, length, Err, None, Ok, Option, Some}
use Rattle.refusal.specs.Refusals.{Outcome}
use Rattle.fa_geometry.specs.declared.FixedArray.{FixedArray as ArrayValue}
use Rattle.fa_geometry.specs.Layout.{fixed_tested_extent}
use Rattle.fa_blocks.specs.declared.ArrayInFile.{ArrayInFile}
use Rattle.fa_blocks.specs.FixedArray.{FixedArray, fixed_from, fixed_block_at}
use Rattle.fa_blocks.specs.Blocks.{fixed_page_set, fixed_page_test, fixed_page_position}

-- the array that a header and an offset size of the code describe, of a file's bytes
abbrev pub fixed_of : List ℕ → ArrayValue → FixedArray
fixed_of file a = fixed_from file a.header a.offset_size

-- the array that the code has in a file
abbrev pub fixed_in : ArrayInFile → FixedArray
fixed_in a = fixed_of a.file.now a.layout.array

-- What the data block's own test covers lies in the file.
pub record BlockInside (a : FixedArray) : Type 0 where
  pub tested : fixed_block_at a + fixed_tested_extent a.header a.offset_size ≤ length a.file

-- Page p: its bit is clear, it has passed its test, or its test refuses it.
abbrev pub EnteredFixedPage : FixedArray → ℕ → Outcome (Option ℕ) → Type 0
EnteredFixedPage a p (Ok None) = fixed_page_set a p ≡ false
EnteredFixedPage a p (Ok (Some at)) =
    (fixed_page_set a p ≡ true) × (fixed_page_test a p ≡ Ok tt)
    × (at ≡ fixed_page_position a p)
EnteredFixedPage a p (Err r) = (fixed_page_set a p ≡ true) × (fixed_page_test a p ≡ Err r)
