-- The walk of the spans: which test comes when, and which spans it gives. The published count plays no part: spans
-- cover every pointed-to block.
use Rattle.std.specs.Prelude.{ℕ, zero, suc, ◌+◌, cond, List, [], ◌∷◌, ◌++◌, Err, Ok}
use Rattle.refusal.specs.Refusals.{◌then◌, Checked, Outcome}
use Rattle.refusal.specs.Outcome.{◌yields◌, also}
use Rattle.fields.specs.Fields.{undefined}
use Rattle.checksum.specs.Lookup3.{lookup3}
use Rattle.ea_header.specs.Header.{header_at, header_test}
use Rattle.ea_header.specs.Served.{served_test}
use Rattle.ea_geometry.specs.Sizes.{super_blocks, blocks}
use Rattle.ea_blocks.specs.Array.{Array, array_from}
use Rattle.ea_blocks.specs.Structures.{index_block, super_block, data_block, is_direct, super_undefined}
use Rattle.ea_blocks.specs.Structures.{block_undefined}
use Rattle.span_walk.specs.declared.Span.{Span}
use Rattle.span_walk.specs.Spans.{header_span, span_of, span_test, spanned_test}

-- a list of spans, or the refusal
abbrev pub Spanning : Type 0
Spanning = Outcome (List Span)

-- one after the other: both lists, or the first refusal
unfoldable pub joined : Spanning → Spanning → Spanning
joined (Err r) b = Err r
joined (Ok l) (Err r) = Err r
joined (Ok l) (Ok m) = Ok (l ++ m)

-- The data blocks of super block u that are pointed to, among j of them from k on. A data block's span isn't tested.
unfoldable pub block_spans : Array → ℕ → ℕ → ℕ → List Span
block_spans a u zero k = []
block_spans a u (suc j) k =
    let next = block_spans a u j (k + 1) in
    cond (block_undefined a u k) next (span_of a (data_block u k) ∷ next)

-- Super block u and its data blocks. Where the index block names these, the super block has no span of its own.
unfoldable pub super_spans : Array → ℕ → Spanning
super_spans a u =
    let inner = Ok (block_spans a u (blocks u) 0) in
    cond (is_direct a u) inner
    (cond (super_undefined a u) (Ok [])
    (spanned_test a (super_block u) yields also (span_of a (super_block u)) inner))

-- j super blocks from u on
unfoldable pub supers_from : Array → ℕ → ℕ → Spanning
supers_from a zero u = Ok []
supers_from a (suc j) u = joined (super_spans a u) (supers_from a j (u + 1))

-- An undefined index block has no span, and leads nowhere.
unfoldable pub index_spans : Array → Spanning
index_spans a =
    cond (undefined a.offset_size a.index_at) (Ok [])
    (spanned_test a index_block yields also (span_of a index_block) (supers_from a (super_blocks a.parameters) 0))

-- Spans: header at its address (31, 20, ..), 27, ..
unfoldable pub head_test : List ℕ → ℕ → ℕ → ℕ → Checked
head_test f address o l =
    span_test (header_span address o l) then header_test lookup3 f address o l
    then served_test (header_at f address o l).parameters

-- .. walk with 31 before 20.
unfoldable pub spans : List ℕ → ℕ → ℕ → ℕ → Spanning
spans f address o l =
    head_test f address o l
    yields also (header_span address o l) (index_spans (array_from f (header_at f address o l) o))
