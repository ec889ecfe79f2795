-- Lookup takes a corner and tests only its path. It answers record or absent.
use Rattle.std.specs.Prelude.{ℕ, List, Option}
use Rattle.refusal.specs.Refusals.{◌then◌, Outcome}
use Rattle.refusal.specs.Outcome.{◌yields◌}
use Rattle.chunk_grid.specs.Grid.{grid_test, corner_test, slot_of}
use Rattle.index.specs.Index.{Rec}
use Rattle.elements.specs.Elements.{Elements}
use Rattle.located.specs.Located.{slot_path}
use Rattle.ea_blocks.specs.Array.{Array}
use Rattle.ea_blocks.specs.Structures.{array_test}
use Rattle.ea_walk.specs.Walk.{located}

-- Lookup: 3 to 8, 10, 27, then its path, the index block always.
unfoldable pub lookup : Array → Elements → List ℕ → Outcome (Option Rec)
lookup a e corner =
    grid_test e.grid then corner_test e.grid corner then array_test a
    yields slot_path (located a e) (slot_of e.grid corner)
