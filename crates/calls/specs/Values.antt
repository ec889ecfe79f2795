-- What the code's values stand for: a call, and the answers of a refusal, of a count and of what a
-- lookup finds.
use Rattle.std.specs.Prelude.{ℕ, List, [], ◌∷◌, replicate, None, Option, Some}
use Rattle.index.specs.declared.Entry.{Entry}
use Rattle.refusal.specs.Refusals.{Outcome}
use Rattle.refusal.specs.declared.Refusal.{Refusal}
use Rattle.refusal.specs.Numbers.{number_of, first_of, second_of}
use Rattle.calls.specs.declared.Call.{Call as CallGiven}
use Rattle.calls.specs.Answer.{answered, chunk_names}
use Rattle.calls.specs.Call.{Call, grid_given, call_of}

-- a refusal's numbers, then zeros, as many as the call names
abbrev pub refused_answer : ℕ → Refusal → List ℕ
refused_answer names r = number_of r ∷ first_of r ∷ second_of r ∷ replicate names 0

-- a list's count, or its refusal
abbrev pub counted_answer : ℕ → Outcome ℕ → List ℕ
counted_answer names = answered names (λ n. n ∷ [])

-- what a chunk that is looked up names, of its entry
unfoldable pub entry_numbers : Option Entry → List ℕ
entry_numbers None = 0 ∷ []
entry_numbers (Some e) = 1 ∷ e.address ∷ e.size ∷ e.mask ∷ []

-- a chunk's entry, absent, or the refusal
abbrev pub found_answer : Outcome (Option Entry) → List ℕ
found_answer = answered chunk_names entry_numbers

-- the call that a value of the code describes, its shapes in bytes
abbrev pub call_from : CallGiven → Call
call_from c =
    call_of c.file.now c.offset_size c.length_size c.address c.element_bytes
    (grid_given c.order c.rank c.chunk.now c.present.now c.has_maximum c.maximum.now)
