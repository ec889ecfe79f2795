-- What the code's values stand for.
use Rattle.std.specs.Prelude.{ℕ, ◌+◌, ◌≤◌, ◌≡◌, List, length, Err, Ok}
use Rattle.span_walk.specs.declared.Span.{Span}
use Rattle.span_walk.specs.Walk.{Spanning}
use Rattle.ea_spans.specs.SpanList.{filled, address_of, length_of}
use Rattle.ea_spans.specs.declared.lists.SpanLists.{SpanLists}

-- Accepted spans have room in two lists from the next number on.
pub record Room (a : Spanning) (lists : SpanLists) : Type 0 where
  pub list : List Span
  pub is : a ≡ Ok list
  pub first : lists.next + length list ≤ length lists.addresses.now
  pub second : lists.next + length list ≤ length lists.lengths.now

-- the number behind the last of them
abbrev pub end_of : ℕ → Spanning → ℕ
end_of n (Err r) = n
end_of n (Ok l) = n + length l

-- They are written into the same two lists, from the next number on.
pub record Written (a : Spanning) (old new : SpanLists) : Type 0 where
  pub same_addresses : new.addresses.ghost_name ≡ old.addresses.ghost_name
  pub same_lengths : new.lengths.ghost_name ≡ old.lengths.ghost_name
  pub addresses : new.addresses.now ≡ filled address_of a old.next old.addresses.now
  pub lengths : new.lengths.now ≡ filled length_of a old.next old.lengths.now
  pub next : new.next ≡ end_of old.next a
