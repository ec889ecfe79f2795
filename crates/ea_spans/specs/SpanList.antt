-- The list of spans: its answer, and the two lists that it fills.
use Rattle.std.specs.Prelude.{ℕ, min, List, [], ◌∷◌, length, Err, Ok}
use Rattle.std.proofs.lemmas.List.Edits.{sets}
use Rattle.refusal.specs.Outcome.{in_room}
use Rattle.span_walk.specs.declared.Span.{Span}
use Rattle.span_walk.specs.Walk.{Spanning, spans}

-- Two lists hold as many spans as the shorter of them.
abbrev pub room_of : List ℕ → List ℕ → ℕ
room_of addresses lengths = min (length addresses) (length lengths)

unfoldable pub spans_into : List ℕ → ℕ → ℕ → ℕ → List ℕ → List ℕ → Spanning
spans_into f address o l addresses lengths = in_room (spans f address o l) (room_of addresses lengths)

-- the addresses or the lengths of spans
unfoldable pub each : (Span → ℕ) → List Span → List ℕ
each part [] = []
each part (s ∷ l) = part s ∷ each part l

abbrev pub address_of : Span → ℕ
address_of s = s.address

abbrev pub length_of : Span → ℕ
length_of s = s.length

-- A lent list then: those numbers from `at` on, and the others as they were. After a refusal all is as it was.
unfoldable pub filled : (Span → ℕ) → Spanning → ℕ → List ℕ → List ℕ
filled part (Err r) at out = out
filled part (Ok l) at out = sets out at (each part l)
