-- Laws of the tests: 31, the header's tests, and those of structures that have a span. Assumes nothing.
use Prim.Native.Nat.{ℕ, ◌+◌, ◌*◌, ◌<◌, ◌≤◌}
use mathlib.Core.Path.{◌≡◌, refl, ap, ◌∙◌}
use native.Mathlib.Omega.{arith}
use borrow.Author.Tests.{lt-ltb, le-ltb}
use Rattle.std.specs.Prelude.{Err, Ok}
use Rattle.refusal.specs.declared.Refusal.{Refusal}
use Rattle.refusal.specs.declared.Refusal.TheVariants.{SpanOverflow}
use Rattle.refusal.specs.Refusals.{figure, largest64}
use Rattle.refusal.proofs.Tests.{refuse_false, refuse_true, then_first, then_second}
use Rattle.ea_header.specs.Header.{header_bytes}
use Rattle.ea_geometry.specs.declared.extents.Extents.{Extents}
use Rattle.ea_geometry.specs.Extents.{index_extent, super_extent}
use Rattle.ea_geometry.proofs.Positions.{index_extent_few}
use Rattle.ea_blocks.specs.Array.{Array}
use Rattle.ea_blocks.specs.Structures.{Structure, super_block, start_of, extent_of, test_of, super_block_at}
use Rattle.span_walk.specs.declared.Span.{Span}
use Rattle.span_walk.specs.Spans.{header_span, bytes_of, span_of, span_test, spanned_test}

module _ (s : Span) where
  pub span_fits : s.address + s.length ≤ largest64 → Ok tt ≡ span_test s
  unfolding span_test
  span_fits le = refuse_false _ _ (le-ltb largest64 (s.address + s.length) le)

  pub span_past : (n : ℕ) → n ≡ figure s.length → largest64 < s.address + s.length
      → Err (SpanOverflow s.address n) ≡ span_test s
  unfolding span_test
  span_past n e lt =
      ap (λ (x : ℕ). Err (SpanOverflow s.address x)) e
      ∙ refuse_true _ _ (lt-ltb largest64 (s.address + s.length) lt)

  -- where the length fits 64 bits
  pub span_exact : s.length ≤ largest64 → largest64 < s.address + s.length → Err (SpanOverflow s.address s.length) ≡ span_test s
  unfolding figure
  span_exact le = span_past s.length (omega arith)

-- the same of the header, by the address of its last byte, each sum at most 2^64 − 1
module _ (address o l a b d last : ℕ) (first : a ≡ figure (l * 6)) (second : b ≡ figure (a + o)) (third : d ≡ figure (b + 15))
    (fourth : last ≡ figure (d + address)) where
  pub header-fits : last < largest64 → Ok tt ≡ span_test (header_span address o l)
  unfolding figure header_span
  header-fits lt = span_fits _ (omega arith)

  pub header_past : (n : ℕ) → n ≡ figure (header_bytes o l) → largest64 ≤ last
      → Err (SpanOverflow address n) ≡ span_test (header_span address o l)
  unfolding figure header_span
  header_past n e le = span_past _ n e (omega arith)

-- the span that the code makes, and its test
module _ (a : Array) (x : Structure) where
  pub span_is : (at n : ℕ) → at ≡ start_of a x → n ≡ bytes_of a x → record { address = at; length = n } ≡ span_of a x
  unfolding span_of
  span_is at n e q = rw (e, q) refl

  -- its own test where 31 is passed, and where it isn't
  pub spanned_passed : (s : Span) → s ≡ span_of a x → Ok tt ≡ span_test s → test_of a x ≡ spanned_test a x
  unfolding spanned_test
  spanned_passed s e h = then_second _ _ (h ∙ ap span_test e)

  pub spanned_refused : (s : Span) (r : Refusal) → s ≡ span_of a x → Err r ≡ span_test s → Err r ≡ spanned_test a x
  unfolding spanned_test
  spanned_refused s r e h = then_first _ _ (h ∙ ap span_test e)

-- the span of a super block
pub super_span_is : (a : Array) (u at n : ℕ) → at ≡ super_block_at a u → n ≡ super_extent a.parameters a.offset_size u
    → record { address = at; length = n } ≡ span_of a (super_block u)
unfolding start_of extent_of bytes_of
super_span_is a u at n e q = span_is a (super_block u) at n e q

-- the bytes of the index block fit 64 bits
pub index-exact : (x : Extents) → x.sizes.parameters.element_size < 256 → x.sizes.parameters.idx_blk_elmts < 256
    → figure (index_extent x.sizes.parameters x.offset_size) ≡ index_extent x.sizes.parameters x.offset_size
unfolding figure
index-exact x e i = let few = index_extent_few x.sizes.parameters x.offset_size x.legal e i x.sizes.served in omega arith
