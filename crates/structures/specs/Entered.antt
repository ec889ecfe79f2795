-- Stepping into structures, and tests that are made ahead of their turn.
use Rattle.std.specs.Prelude.{ℕ, ◌≡◌, Err, None, Ok, Option, Some}
use Rattle.structures.specs.declared.enter.Ahead.{Ahead}
use Rattle.refusal.specs.Refusals.{Checked, Outcome}

-- A test that was made ahead of its turn, of one of the structures that are numbered, has that structure's result.
abbrev pub TestedBy : (ℕ → Checked) → Option Ahead → Type 0
TestedBy test None = Unit {0}
TestedBy test (Some ahead) = ahead.checked ≡ test ahead.index

-- Stepping into a structure, by where it lies and by its test: it is absent, or its test decides.
unfoldable pub entered : Option ℕ → Checked → Outcome (Option ℕ)
entered None test = Ok None
entered (Some at) (Ok _) = Ok (Some at)
entered (Some at) (Err r) = Err r
