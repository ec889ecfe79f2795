-- What the code's values stand for: an array as an index, the runs of its slots, and where the paths to them end.
use Rattle.std.specs.Prelude.{ℕ, ◌+◌, ◌-◌, ◌%◌, ◌≡◌, not, cond, ◌&&◌, Ok, Option, Some}
use Rattle.refusal.specs.Refusals.{largest64, Outcome}
use Rattle.elements.specs.Elements.{Elements}
use Rattle.located.specs.declared.Run.{Run}
use Rattle.located.specs.declared.Run.TheVariants.{Gap, Elements as Present}
use Rattle.located.specs.Values.{RunOf}
use Rattle.walked_index.specs.PathEnds.{PathEnds}
use Rattle.ea_header.specs.declared.ExtensibleArrayHeader.{ExtensibleArrayHeader}
use Rattle.ea_geometry.specs.declared.Place.{Place}
use Rattle.ea_geometry.specs.declared.Place.TheVariants.{Inline, Block, Page, Nowhere}
use Rattle.ea_geometry.specs.Sizes.{block_elements, page_elements}
use Rattle.ea_geometry.specs.Extents.{form_of}
use Rattle.ea_geometry.specs.Place.{in_pages, place}
use Rattle.ea_geometry.specs.Slots.{first_slot}
use Rattle.ea_blocks.specs.Array.{Array}
use Rattle.ea_blocks.specs.Values.{headed}
use Rattle.ea_blocks.specs.Structures.{is_direct, super_undefined, block_undefined}
use Rattle.ea_blocks.specs.Places.{place_test}
use Rattle.ea_blocks.specs.Entered.{EnteredSuper, EnteredBlock}
use Rattle.ea_walk.specs.Walk.{located}
use Rattle.ea_index.specs.declared.ArrayIndex.{ArrayIndex}

-- the index that an array is, as a header with this offset size heads it
abbrev pub indexed : ExtensibleArrayHeader → ℕ → ArrayIndex
indexed h o = record { array = headed h o; count = h.num_elements }

-- The structures that lead to the place of slot s have passed their tests.
abbrev pub PathTested : Array → ℕ → Type 0
PathTested a s = place_test a (place a.parameters s) ≡ Ok tt

-- The slots from s on are such a run, whatever elements of the array's form its file holds.
abbrev pub RunIn : Array → ℕ → Run → Type 0
RunIn a s run =
    (e : Elements) → e.file ≡ a.file → form_of a.parameters a.offset_size ≡ e.form
    → RunOf (located a e) s run

-- how many slots a run has
unfoldable pub slots_of : Run → ℕ
slots_of (Gap n) = n
slots_of (Present pos n) = n

-- How many slots the run of slot s has, which is element i of data block k of super block u: up to the end of the super
-- block where that isn't there, else of the page in a data block that is read by pages, else of the data block.
unfoldable pub block_slots : Array → ℕ → ℕ → ℕ → ℕ → ℕ
block_slots a s u k i =
    let h = a.parameters in
    cond (not (is_direct a u) && super_undefined a u) (first_slot h (u + 1) - s)
    (cond (not (block_undefined a u k) && in_pages h u) (page_elements h - i % page_elements h)
    (block_elements h u - i))

-- The same by the slot's place. An inline slot's run goes up to the last of them; behind the last place there is no
-- end.
unfoldable pub run_slots : Array → ℕ → Place → ℕ
run_slots a s (Inline i) = a.parameters.idx_blk_elmts - i
run_slots a s (Block u k i) = block_slots a s u k i
run_slots a s (Page u k i p bit) = block_slots a s u k i
run_slots a s Nowhere = largest64

-- The path to slot s ends so, for all elements of the array's form.
abbrev pub ArrayEnds : Array → ℕ → Outcome (Option ℕ) → Type 0
ArrayEnds a s end = PathEnds (located a) a.file (form_of a.parameters a.offset_size) s end

-- What leads to data block k of super block u and the block itself have passed their tests: the super block lies at
-- super_at (or the index block names the data block), the data block at `at`.
pub record BlockEntered (a : Array) (u k : ℕ) (super_at : Option ℕ) (at : ℕ) : Type 0 where
  pub super : EnteredSuper a u (Ok (Some super_at))
  pub block : EnteredBlock a u k (Ok (Some at))
