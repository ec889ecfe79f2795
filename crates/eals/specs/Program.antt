-- The program: what it prints of an input.
use Rattle.std.specs.Prelude.{ℕ, ◌+◌, ◌*◌, ◌/◌, List, [], ◌∷◌, length, take, drop, Err, None, Ok, Option, Some}
use Rattle.index.specs.Index.{Listing}
use Rattle.refusal.specs.Refusals.{Outcome}
use Rattle.refusal.specs.Values.{counted_of}
use Rattle.calls.specs.Call.{grid_given, call_of}
use Rattle.ea_calls.specs.Call.{list_at}
use Rattle.questions.specs.Line.{file_of, question_of, numbers_stored}
use Rattle.records.specs.Records.{record_length, list_content, records_in}
use Rattle.list_text.specs.Printed.{list_text, refusal_text}
use Rattle.questions.specs.declared.Question.{Question}

-- Behind the line's first six numbers stand the chunk's, the present and the maximum lengths, 8 bytes each.
unfoldable pub shape_at : ℕ → ℕ → List ℕ → List ℕ
shape_at rank from numbers = take (8 * rank) (drop from numbers)

-- the list of the file that a question asks for, into a lent list of so many bytes
unfoldable pub listing_of : Question → List ℕ → List ℕ → ℕ → Listing
listing_of q numbers file room =
    let rank = q.rank in
    let grid = grid_given q.order rank (shape_at rank 48 numbers) (shape_at rank (48 + 8 * rank) numbers) 1
    (shape_at rank (48 + 16 * rank) numbers) in
    list_at (call_of file q.offset_size q.length_size q.address q.element_bytes grid)
    (room / record_length rank)

-- the text of an answer: of the records that the lent list holds, or of the refusal
unfoldable pub counted_text : ℕ → Outcome ℕ → List ℕ → List ℕ
counted_text rank (Ok n) list = list_text (records_in rank n list)
counted_text rank (Err r) list = refusal_text r

-- how many records there are
unfoldable pub records_counted : Outcome ℕ → ℕ
records_counted (Ok n) = n
records_counted (Err r) = 0

-- For a line of another form, or too long a file, `unreadable` is printed.
abbrev pub unreadable_text : List ℕ
unreadable_text = 117 ∷ 110 ∷ 114 ∷ 101 ∷ 97 ∷ 100 ∷ 97 ∷ 98 ∷ 108 ∷ 101 ∷ 10 ∷ []

-- what a line comes to, with the numbers that are stored of it
unfoldable pub parsed_text : Option Question → List ℕ → List ℕ → List ℕ → List ℕ
parsed_text None numbers file list = unreadable_text
parsed_text (Some q) numbers file list =
    let a = listing_of q numbers file (length list) in
    counted_text q.rank (counted_of a) (list_content a list)

-- The program reads the line and the file behind it, lists the chunks, and prints.
unfoldable pub program_text : List ℕ → List ℕ → List ℕ → List ℕ
program_text input numbers list = parsed_text (question_of input) (numbers_stored input numbers) (file_of input) list
