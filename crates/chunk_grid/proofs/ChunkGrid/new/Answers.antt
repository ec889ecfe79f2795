-- `chunk_grid::ChunkGrid::new` meets its contract. Assumes nothing.
use mathlib.Core.Path.{◌≡◌, sym, ap, ◌∙◌}
use mathlib.Core.List.{List}
use Rattle.std.specs.Prelude.{Ok, Option}
use Rattle.std.specs.Option.{is_some, unwrap_or, option_copied}
use Rattle.std.proofs.Common.{rules, Bor, ℕ, []}
use Rattle.chunk_grid.specs.Grid.{Grid, shapes_test, grid_test, given}
use Rattle.chunk_grid.proofs.Numbered.{kept_from, behind, refused_shapes, built_refused, built_passed, given_lengths, tests-given, same_grid}
use Rattle.chunk_grid.proofs.ChunkGrid.new.Goals.{After-numbering_test, After-unwrap_or-limits, In_ok-shapes_test, Start}
use Rattle.chunk_grid.proofs.ChunkGrid.new.Goals as goal

-- the maximum that is given, and the grid that is asked for
abbrev maximum : Start → Option (List ℕ)
maximum c = option_copied c.args.maximum

abbrev asked : Start → Grid
asked c = given c.args.rank c.args.chunk.now c.args.present.now (is_some (maximum c)) (unwrap_or (maximum c) []) c.args.order

passed : (c : In_ok-shapes_test) → Ok tt ≡ shapes_test (asked (goal.at.In_ok-shapes_test c).Start)
passed c = sym c.in_ok-shapes_test.was ∙ c.shapes_test.ensures _

limited : (c : After-unwrap_or-limits) → c.unwrap_or-limits.result.now ≡ unwrap_or (maximum (goal.at.After-unwrap_or-limits c).Start) c.args.present.now
limited c = ap (λ (b : Bor (List ℕ)). b.now) c.unwrap_or-limits.ensures ∙ behind c.args.maximum c.args.present

tested : (c : After-numbering_test) → c.numbering_test.result ≡ grid_test (asked (goal.at.After-numbering_test c).Start)
tested c =
    let before = goal.at.After-numbering_test c in
    c.numbering_test.ensures ∙ rw (limited before.After-unwrap_or-limits) (tests-given _ _ _ _ _ (passed before.In_ok-shapes_test))

pub returns-in_err-shapes_test : goal.returns-in_err-shapes_test
returns-in_err-shapes_test c =
    let e = built_refused (asked (goal.at.returns-in_err-shapes_test c).Start) c.in_err-shapes_test.field-0.0 (refused_shapes _ _ (sym c.in_err-shapes_test.was ∙ c.shapes_test.ensures _)) in
    search rules

pub numbering_test-requires : goal.numbering_test-requires
numbering_test-requires c =
    let before = goal.at.numbering_test-requires c in
    rw (limited before.After-unwrap_or-limits) (given_lengths _ _ _ _ _ (passed before.In_ok-shapes_test))

pub returns-in_err-numbering_test : goal.returns-in_err-numbering_test
returns-in_err-numbering_test c =
    let e = built_refused (asked (goal.at.returns-in_err-numbering_test c).Start) c.in_err-numbering_test.field-0.0 (sym c.in_err-numbering_test.was ∙ tested (goal.at.returns-in_err-numbering_test c).After-numbering_test) in
    search rules

pub returns : goal.returns
returns c =
    built_passed (asked (goal.at.returns c).Start) _ (sym c.in_ok-numbering_test.was ∙ tested (goal.at.returns c).After-numbering_test)
    (same_grid _ _ _ _ _ _ _ _ (passed (goal.at.returns c).In_ok-shapes_test) c.padded.ensures c.padded-2.ensures (kept_from _ _ c.map.ensures.cases (λ x a h. h)))
