-- `span_count::spans::index_span` meets its contract. Assumes nothing.
use mathlib.Core.Path.{refl, ap, ◌∙◌}
use native.Mathlib.Omega.{arith}
use Rattle.refusal.specs.Refusals.{figure}
use Rattle.ea_geometry.specs.Extents.{index_extent}
use Rattle.ea_blocks.specs.Array.{Array}
use Rattle.ea_blocks.specs.Structures.{start_of, extent_of}
use Rattle.span_walk.specs.Spans.{bytes_of}
use Rattle.span_count.proofs.SpanTests.{span_is, index-exact}
use Rattle.span_count.proofs.spans.index_span.Goals as goal

pub returns : goal.returns
unfolding start_of extent_of bytes_of
returns c f =
    span_is _ _ _ _ refl (c.index_extent.ensures ∙ ap (λ (a : Array). figure (index_extent a.parameters a.offset_size)) c.array_alone.ensures
    ∙ index-exact c.args.array.extents (omega arith) (omega arith))
