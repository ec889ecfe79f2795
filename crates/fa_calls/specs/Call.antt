-- The fixed array of a call from C, and what the call is answered.
use Rattle.std.specs.Prelude.{ℕ, List, Option}
use Rattle.refusal.specs.Refusals.{Outcome}
use Rattle.refusal.specs.Outcome.{◌yields◌, in_room}
use Rattle.checksum.specs.Lookup3.{lookup3}
use Rattle.index.specs.Index.{Index, Rec, Listing}
use Rattle.elements.specs.Elements.{Elements}
use Rattle.located.specs.Located.{index_of}
use Rattle.fa_header.specs.declared.FixedArrayHeader.{FixedArrayHeader}
use Rattle.fa_header.specs.Header.{fixed_header_at, fixed_header_test}
use Rattle.fa_blocks.specs.FixedArray.{FixedArray, fixed_from}
use Rattle.fa_walk.specs.Walk.{fixed_elements_in, fixed_located, fixed_list, fixed_lookup}
use Rattle.calls.specs.Call.{Call}

-- The header at the call's address, ..
abbrev pub fixed_call_header : Call → FixedArrayHeader
fixed_call_header c = fixed_header_at c.file c.address c.offset_size c.length_size

-- .. the array that it heads, ..
unfoldable pub fixed_call_array : Call → FixedArray
fixed_call_array c = fixed_from c.file (fixed_call_header c) c.offset_size

-- .. its elements, ..
unfoldable pub fixed_call_elements : Call → Elements
fixed_call_elements c = fixed_elements_in c.file (fixed_call_header c) c.offset_size c.grid c.element_bytes

-- .. and the index that they are.
abbrev pub fixed_call_index : Call → Index
fixed_call_index c = index_of (fixed_located (fixed_call_array c) (fixed_call_elements c))

-- The header is read first: all of its refusals, then what the array and its elements are answered.
unfoldable pub fixed_call_answer : {A : Type 0} → (FixedArray → Elements → Outcome A) → Call → Outcome A
fixed_call_answer answer c =
    fixed_header_test lookup3 c.file c.address c.offset_size c.length_size
    yields answer (fixed_call_array c) (fixed_call_elements c)

-- The call's list, where there is room for so many records.
abbrev pub fixed_list_at : Call → ℕ → Listing
fixed_list_at c room = fixed_call_answer (λ (a : FixedArray) (e : Elements). in_room (fixed_list a e) room) c

-- What a call's array and elements answer to a corner.
abbrev pub fixed_lookup_at : Call → List ℕ → Outcome (Option Rec)
fixed_lookup_at c corner = fixed_call_answer (λ (a : FixedArray) (e : Elements). fixed_lookup a e corner) c
