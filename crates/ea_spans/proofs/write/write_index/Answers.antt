-- `ea_spans::write::write_index` meets its contract. Assumes nothing.
use mathlib.Core.Path.{◌≡◌, sym, ap, ◌∙◌}
use mathlib.Core.Bool.{false}
use Rattle.std.specs.Prelude.{Ok}
use Rattle.refusal.specs.Outcome.{also}
use Rattle.refusal.proofs.Tests.{then_inv}
use Rattle.refusal.proofs.Outcomes.{yields_inv, yields_passed}
use Rattle.fields.specs.Fields.{undefined}
use Rattle.ea_geometry.specs.Sizes.{super_blocks}
use Rattle.ea_blocks.specs.Array.{Array}
use Rattle.ea_blocks.specs.Values.{array_in}
use Rattle.ea_blocks.specs.Structures.{index_block}
use Rattle.ea_blocks.proofs.StructureTests.{index_inside}
use Rattle.span_walk.specs.Spans.{spanned_test}
use Rattle.span_walk.specs.Walk.{supers_from, index_spans}
use Rattle.span_walk.proofs.Turns.{index_none, index_defined}
use Rattle.ea_spans.proofs.Writing.{Going, going_whole, going_as, going_done, going_none, going_fits, going_put}
use Rattle.ea_spans.proofs.write.write_index.Goals.{After-index_span, After-index_undefined, After-push, Else-index_undefined}
use Rattle.ea_spans.proofs.write.write_index.Goals as goal

-- whether the index block's address is undefined, which is tested of the array without its file
tested : (c : After-index_undefined) → let a = array_in c.args.array in undefined a.offset_size a.index_at ≡ c.index_undefined.result
tested c = sym (c.index_undefined.ensures ∙ ap (λ (a : Array). undefined a.offset_size a.index_at) c.array_alone.ensures)

pub returns-then-index_undefined : goal.returns-then-index_undefined
returns-then-index_undefined c =
    going_none (going_as (index_none _ (tested (goal.at.returns-then-index_undefined c).After-index_undefined ∙ c.if-index_undefined.true)) (going_whole c.requires.1))

-- there is an index block
there : (c : Else-index_undefined) → let a = array_in c.args.array in undefined a.offset_size a.index_at ≡ false
there c = tested (goal.at.Else-index_undefined c).After-index_undefined ∙ c.if-index_undefined.false

passed : (c : Else-index_undefined) → spanned_test (array_in c.args.array) index_block ≡ Ok tt
passed c =
    let r = c.requires.1 in
    (yields_inv _ _ _ (sym (index_defined _ (there c)) ∙ r.is)).0

-- the index block's span comes next
spanned : (c : After-index_span)
    → let a = array_in c.args.array in
    Going (index_spans a) c.args.lists.now (also c.index_span.result (supers_from a (super_blocks a.parameters) 0)) c.args.lists.now
spanned c =
    rw (c.index_span.ensures c.args.array.file.now)
    (going_as (index_defined _ (there (goal.at.After-index_span c).Else-index_undefined) ∙ yields_passed _ _ (passed (goal.at.After-index_span c).Else-index_undefined)) (going_whole c.requires.1))

pub push-requires : goal.push-requires
push-requires c = going_fits _ _ (spanned (goal.at.push-requires c).After-index_span)

-- what follows it comes next
behind : (c : After-push)
    → let a = array_in c.args.array in
    Going (index_spans a) c.args.lists.now (supers_from a (super_blocks a.parameters) 0) c.push.new.self
behind c = going_put _ _ (spanned (goal.at.After-push c).After-index_span) c.push.ensures

pub invariant_of-write_supers-clause-inside : goal.invariant_of-write_supers-clause-inside
unfolding spanned_test
invariant_of-write_supers-clause-inside c =
    index_inside _ (then_inv _ _ (passed (goal.at.invariant_of-write_supers-clause-inside c).Else-index_undefined)).1

pub write_supers-requires : goal.write_supers-requires
write_supers-requires c = (behind (goal.at.write_supers-requires c).After-push).room

pub returns : goal.returns
returns c = going_done (behind (goal.at.returns c).After-push) c.write_supers.ensures
