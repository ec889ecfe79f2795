-- `ea_spans::write::write_blocks` meets its contract. Assumes nothing.
use Prim.Native.Nat.{ℕ, ◌+◌, ◌-◌}
use mathlib.Core.Path.{◌≡◌, sym, ap, ◌∙◌}
use native.Mathlib.Omega.{arith}
use Rattle.std.specs.Prelude.{Ok, Some}
use Rattle.refusal.specs.Outcome.{also}
use Rattle.ea_blocks.specs.Values.{array_in}
use Rattle.ea_blocks.specs.Structures.{start_of}
use Rattle.ea_blocks.proofs.PointerValues.{pointer_undefined, pointer_at_lem}
use Rattle.span_walk.specs.Spans.{bytes_of}
use Rattle.span_walk.specs.Walk.{block_spans}
use Rattle.span_walk.proofs.Turns.{blocks_none}
use Rattle.span_count.proofs.SpanTests.{span_is}
use Rattle.ea_spans.proofs.Writing.{Going, going_as, going_none, going_fits, going_put, going_skip, going_block}
use Rattle.ea_spans.proofs.write.write_blocks.Goals.{After-block_pointer, in-Some, in_default}
use Rattle.ea_spans.proofs.write.write_blocks.Goals as goal

-- the pointer to data block k is defined, and its span comes next
spanned : (c : After-block_pointer) (at : ℕ) → c.block_pointer.result ≡ Some at
    → let blocks = c.blocks-blocks.result in
    let left = block_spans (array_in c.args.row.array.array) c.args.row.u in
    let k = c.loop-k.k + 1 in
    Going (Ok (left blocks 0)) c.args.lists.now
    (also (record { address = at; length = c.block_length-length.result }) (Ok (left (blocks - k) k))) c.loop-k.lists
unfolding start_of bytes_of
spanned c at is =
    let q = pointer_at_lem _ _ _ (sym is ∙ c.block_pointer.ensures c.requires.0) in
    going_block _ _ _ _ (omega arith) c.loop-k.invariant q.0 _ (span_is _ _ _ _ q.1 c.block_length-length.ensures)

pub push-requires : goal.push-requires
push-requires c = going_fits _ _ (spanned (goal.at.push-requires c).After-block_pointer _ c.in-Some.is)

pub loop-k-preserved : goal.loop-k-preserved
loop-k-preserved c =
    elim c.match-block_pointer.branch [
      | in-Some w ↦
          rw w.lists-is (going_put _ _ (spanned (goal.at.loop-k-preserved c).After-block_pointer _ w.in-Some.is) w.push.ensures)
      | in_default w ↦
          rw w.lists-is (going_skip _ _ _ _ (omega arith) c.loop-k.invariant
          (pointer_undefined _ _ (sym w.in_default.is ∙ c.block_pointer.ensures c.requires.0)))
    ]

pub returns : goal.returns
returns c =
    rw (← c.blocks-blocks.ensures) (going_none (going_as (ap Ok (blocks_none _ _ _ _ (omega arith))) c.loop-k.invariant))
