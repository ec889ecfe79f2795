-- The extensible array of a call from C, and what the call is answered.
use Rattle.std.specs.Prelude.{ℕ}
use Rattle.refusal.specs.Refusals.{Outcome}
use Rattle.refusal.specs.Outcome.{◌yields◌, in_room}
use Rattle.checksum.specs.Lookup3.{lookup3}
use Rattle.index.specs.Index.{Index, Listing}
use Rattle.elements.specs.Elements.{Elements}
use Rattle.located.specs.Located.{index_of}
use Rattle.ea_header.specs.declared.ExtensibleArrayHeader.{ExtensibleArrayHeader}
use Rattle.ea_header.specs.Header.{header_at, header_test}
use Rattle.ea_blocks.specs.Array.{Array, array_from}
use Rattle.ea_walk.specs.Walk.{located, list, elements_in}
use Rattle.calls.specs.Call.{Call}

-- The header at the call's address, ..
abbrev pub call_header : Call → ExtensibleArrayHeader
call_header c = header_at c.file c.address c.offset_size c.length_size

-- .. the array that it heads, ..
unfoldable pub call_array : Call → Array
call_array c = array_from c.file (call_header c) c.offset_size

-- .. its elements, ..
unfoldable pub call_elements : Call → Elements
call_elements c = elements_in c.file (call_header c) c.offset_size c.grid c.element_bytes

-- .. and the index that they are.
abbrev pub call_index : Call → Index
call_index c = index_of (located (call_array c) (call_elements c))

-- The header is read first: all of its refusals, then what the array and its elements are answered.
unfoldable pub call_answer : {A : Type 0} → (Array → Elements → Outcome A) → Call → Outcome A
call_answer answer c =
    header_test lookup3 c.file c.address c.offset_size c.length_size
    yields answer (call_array c) (call_elements c)

-- The call's list, where there is room for so many records.
abbrev pub list_at : Call → ℕ → Listing
list_at c room = call_answer (λ (a : Array) (e : Elements). in_room (list a e) room) c
