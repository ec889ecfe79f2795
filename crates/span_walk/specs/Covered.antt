-- What the spans of an array cover: every structure that a list or a lookup tests.
use Rattle.std.specs.Prelude.{ℕ, ◌+◌, ◌<◌, ◌≤◌, ◌≡◌, true, false}
use mathlib.Core.List.{List, Memᴰ}
use Rattle.ea_geometry.specs.Sizes.{super_blocks, blocks, pages}
use Rattle.ea_geometry.specs.Place.{in_pages, place}
use Rattle.ea_blocks.specs.Array.{Array}
use Rattle.ea_blocks.specs.Structures.{Structure, index_block, super_block, data_block, data_page, start_of, extent_of}
use Rattle.ea_blocks.specs.Structures.{is_direct, super_undefined}
use Rattle.ea_blocks.specs.Places.{block_reached, structures}
use Rattle.span_walk.specs.declared.Span.{Span}

-- The bytes that its test covers lie in a span of the list.
pub record InSpan (a : Array) (l : List Span) (x : Structure) : Type 0 where
  pub span : Span
  pub listed : Memᴰ span l
  pub starts : span.address ≤ start_of a x
  pub ends : start_of a x + extent_of a x ≤ span.address + span.length

pub record Covered (a : Array) (l : List Span) : Type 0 where
  pub index : InSpan a l index_block
  -- every super block that is pointed to, ..
  pub super : (u : ℕ) → u < super_blocks a.parameters → is_direct a u ≡ false → super_undefined a u ≡ false
      → InSpan a l (super_block u)
  -- .. every data block, ..
  pub block : (u k : ℕ) → u < super_blocks a.parameters → k < blocks u → block_reached a u k ≡ true
      → InSpan a l (data_block u k)
  -- .. and its pages, where it is read by pages;
  pub page : (u k p : ℕ) → u < super_blocks a.parameters → k < blocks u → p < pages a.parameters u
      → in_pages a.parameters u ≡ true → block_reached a u k ≡ true → InSpan a l (data_page u k p)
  -- so all structures that lead to the place of a slot
  pub path : (s : ℕ) (x : Structure) → Memᴰ x (structures a (place a.parameters s)) → InSpan a l x
