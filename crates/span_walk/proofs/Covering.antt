-- The spans of an array cover every structure that a list or a lookup of the same file tests. Assumes nothing.
use Prim.Native.Nat.{ℕ, ◌+◌, ◌<◌, ◌≤◌}
use mathlib.Core.Path.{◌≡◌, refl, sym, subst, ◌∙◌}
use mathlib.Core.Bool.{true, false, not, cond, ◌||◌}
use mathlib.Core.List.Memᴰ
use mathlib.Core.List.{List, [], ◌∷◌, Memᴰ}
use mathlib.Core.Logic.{⊎_elim}
use native.Mathlib.Omega.{arith}
use lib.Dec.{leb}
use Rattle.std.specs.Prelude.{Ok}
use Rattle.refusal.proofs.Tests.{by_cond, both}
use Rattle.refusal.proofs.Outcomes.{yields_inv, also_inv}
use Rattle.fields.specs.Fields.{undefined}
use Rattle.ea_header.specs.declared.Parameters.{Parameters}
use Rattle.ea_header.specs.Header.{header_at}
use Rattle.ea_header.specs.Values.{Served}
use Rattle.ea_geometry.specs.Sizes.{super_blocks, blocks, direct_super_blocks, over_page, pages}
use Rattle.ea_geometry.specs.Extents.{element_at, data_extent, paged_head_extent, page_extent, page_at, paged_extent, block_element_at}
use Rattle.ea_geometry.specs.Place.{in_pages, place}
use Rattle.ea_geometry.specs.Slots.{PlaceOf}
use Rattle.ea_geometry.specs.declared.Place.{Place}
use Rattle.ea_geometry.specs.declared.Place.TheVariants.{Inline, Block, Page, Nowhere}
use Rattle.ea_geometry.proofs.Counts.{pages-exact}
use Rattle.ea_geometry.proofs.Positions.{page_inside}
use Rattle.ea_geometry.proofs.Places.{place_of_lem, page_below}
use Rattle.ea_blocks.specs.Array.{Array, array_from}
use Rattle.ea_blocks.specs.Structures.{Structure, index_block, super_block, data_block, data_page, start_of, extent_of, is_direct, data_page_at, super_undefined, block_undefined, bit_set}
use Rattle.ea_blocks.specs.Places.{block_reached, leading_to, structures}
use Rattle.span_walk.specs.declared.Span.{Span}
use Rattle.span_walk.specs.Spans.{header_span, block_length, bytes_of, span_of}
use Rattle.span_walk.specs.Walk.{supers_from, index_spans, spans}
use Rattle.span_walk.specs.Covered.{InSpan, Covered}
use Rattle.span_walk.proofs.Heads.{head_passed}
use Rattle.span_walk.proofs.Turns.{index_defined}
use Rattle.span_walk.proofs.Members.{among_cons, head_cons, Holds, supers_in}

-- a data block's length is enough for what is tested of it, paged or not
module _ (h : Parameters) (o u : ℕ) (v : Served h) (m : u < super_blocks h) where
  paged_length : in_pages h u ≡ true → block_length h o u ≡ paged_extent h o u
  unfolding block_length in_pages
  paged_length q = rw (both (leb (direct_super_blocks h) u) (over_page h u) q).1 refl

  -- the part that is tested first: the head where it is read by pages, all of it otherwise
  first_enough : cond (in_pages h u) (paged_head_extent h o) (data_extent h o u) ≤ block_length h o u
  unfolding block_length data_extent block_element_at paged_extent page_at paged_head_extent page_extent element_at
  first_enough =
      by_cond (λ (x : ℕ). x ≤ block_length h o u) (in_pages h u) (λ p. rw (paged_length p) (omega arith))
      (λ p. by_cond (λ (x : ℕ). data_extent h o u ≤ x) (over_page h u)
      (λ q. rw (sym (pages-exact h v u m q)) (omega arith)) (λ q. omega arith))

  -- a page
  page_enough : (p : ℕ) → in_pages h u ≡ true → p < pages h u → page_at h o p + page_extent h o ≤ block_length h o u
  page_enough p q lt = rw (paged_length q) (page_inside h o u p lt)

module _ (a : Array) (v : Served a.parameters) (l : List Span) (index : Memᴰ (span_of a index_block) l)
    (holds : (u : ℕ) → u < super_blocks a.parameters → Holds a u l) where
  -- a structure that has a span of its own
  span_within : (x : Structure) → extent_of a x ≤ bytes_of a x → Memᴰ (span_of a x) l → InSpan a l x
  unfolding span_of
  span_within x le m = record { span = span_of a x; listed = m; starts = omega arith; ends = omega arith }

  index_within : InSpan a l index_block
  unfolding bytes_of
  index_within = span_within index_block (omega arith) index

  module _ (u : ℕ) (m : u < super_blocks a.parameters) where
    super_within : is_direct a u ≡ false → super_undefined a u ≡ false → InSpan a l (super_block u)
    unfolding bytes_of
    super_within d w = span_within (super_block u) (omega arith) ((holds u m).super d w)

    module _ (k : ℕ) (lt : k < blocks u) where
      block_within : block_reached a u k ≡ true → InSpan a l (data_block u k)
      unfolding extent_of bytes_of
      block_within r = span_within (data_block u k) (first_enough a.parameters a.offset_size u v m) ((holds u m).block k lt r)

      page_within : (p : ℕ) → p < pages a.parameters u → in_pages a.parameters u ≡ true → block_reached a u k ≡ true
          → InSpan a l (data_page u k p)
      unfolding start_of extent_of span_of bytes_of data_page_at
      page_within p lp q r = record {
        span = span_of a (data_block u k);
        listed = (holds u m).block k lt r;
        starts = omega arith;
        ends = omega (arith, page_enough a.parameters a.offset_size u v m p q lp);
      }

  -- all structures of a list
  abbrev All : List Structure → Type 0
  All xs = (x : Structure) → Memᴰ x xs → InSpan a l x

  all_none : All []
  all_none x m = absurd (Memᴰ.not-nil m)

  all_cons : (y : Structure) (xs : List Structure) → InSpan a l y → All xs → All (y ∷ xs)
  all_cons y xs w f x m = ⊎_elim (λ (e : x ≡ y). subst (InSpan a l) (sym e) w) (λ t. f x t) (Memᴰ.cases_cons m)

  -- those that lead to a data block and to what is in it
  leading_within : (u k : ℕ) (m : u < super_blocks a.parameters) (lt : k < blocks u) (inner : List Structure)
      → (block_reached a u k ≡ true → All inner) → All (leading_to a u k inner)
  unfolding leading_to block_reached
  leading_within u k m lt inner f =
      by_cond All (is_direct a u) (λ d. block (rw d refl))
      (λ d. by_cond All (super_undefined a u) (λ w. all_none) (λ w. all_cons _ _ (super_within u m d w) (block (rw (d, w) refl))))
    where
      block : is_direct a u || not (super_undefined a u) ≡ true → All (cond (block_undefined a u k) [] (data_block u k ∷ inner))
      block e =
          by_cond All (block_undefined a u k) (λ t. all_none)
          (λ t. let r : block_reached a u k ≡ true = rw (e, t) refl in all_cons _ _ (block_within u m k lt r) (f r))

  -- .. and to a place
  path_within : (s : ℕ) (p : Place) → PlaceOf a.parameters s p → All (structures a p)
  unfolding structures PlaceOf
  path_within s (Inline i) o = all_none
  path_within s (Block u k i) o = leading_within u k o.0.super o.0.block [] (λ r. all_none)
  path_within s (Page u k i p n) o =
      let b = o.0 in
      let lp : p < pages a.parameters u = rw o.2 (page_below a.parameters v u i b.super o.1 b.element) in
      leading_within u k b.super b.block _
      (λ r. by_cond All (bit_set a u n)
      (λ t. all_cons _ _ (page_within u b.super k b.block p lp o.1 r) all_none) (λ t. all_none))
  path_within s Nowhere o = all_none

  pub covered : Covered a l
  covered = record {
    index = index_within;
    super = super_within;
    block = λ u k m. block_within u m k;
    page = λ u k p m lt. page_within u m k lt p;
    path = λ s. path_within s (place a.parameters s) (place_of_lem a.parameters v s);
  }

-- the accepted spans of an array whose index block is defined
index_inv : (a : Array) (l : List Span) → undefined a.offset_size a.index_at ≡ false → index_spans a ≡ Ok l
    → (m : List Span) × (supers_from a (super_blocks a.parameters) 0 ≡ Ok m) × (l ≡ span_of a index_block ∷ m)
index_inv a l u h = also_inv _ _ l (yields_inv _ _ l (sym (index_defined a u) ∙ h)).1

-- The spans of a file are accepted, and its index block is defined: the header has its span, and every structure that
-- a list or a lookup of any dataset with this index tests lies in one.
pub spans_cover : (f : List ℕ) (address o l : ℕ) (s : List Span) → spans f address o l ≡ Ok s
    → undefined o (header_at f address o l).index_block_address ≡ false
    → Memᴰ (header_span address o l) s × Covered (array_from f (header_at f address o l) o) s
unfolding spans
spans_cover f address o l s e u =
    let y = yields_inv _ _ s e in
    let q = also_inv _ _ s y.1 in
    let v = (head_passed f address o l (sym y.0)).2 in
    let a = array_from f (header_at f address o l) o in
    let i = index_inv a q.0 u q.1 in (
      head_cons q.2,
      covered a v s (among_cons q.2 _ (head_cons i.2))
          (λ w lt. supers_in a (super_blocks a.parameters) 0 s i.0 i.1
          (λ x m. among_cons q.2 x (among_cons i.2 x m)) w (omega arith) (omega arith)),
    )
