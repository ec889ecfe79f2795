-- The lookup as it is called from C.
use Rattle.std.specs.Prelude.{ℕ, List, Option}
use Rattle.index.specs.Index.{Rec}
use Rattle.elements.specs.Elements.{Elements}
use Rattle.ea_blocks.specs.Array.{Array}
use Rattle.calls.specs.Call.{Call}
use Rattle.ea_calls.specs.Call.{call_answer}
use Rattle.ea_lookup.specs.Lookup.{lookup}
use Rattle.refusal.specs.Refusals.{Outcome}

-- What a call's array and elements answer to a corner.
abbrev pub lookup_at : Call → List ℕ → Outcome (Option Rec)
lookup_at c corner = call_answer (λ (a : Array) (e : Elements). lookup a e corner) c
