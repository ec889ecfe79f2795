-- What the program reads: a line, and behind it the file.
use Rattle.std.specs.Prelude.{None, Option, Some}
use Rattle.std.specs.Prelude.{ℕ, suc, ◌+◌, ◌*◌, Bool, cond, ◌&&◌, List, [], ◌∷◌, eqb, leb, ltb, length, drop}
use Rattle.std.proofs.lemmas.List.Edits.{sets}
use Rattle.refusal.specs.Refusals.{largest64}
use Rattle.records.specs.Records.{offset_bytes}
use Rattle.questions.specs.Text.{before, words, is_only, number_of}
use Rattle.questions.specs.declared.Question.{Question}

-- The line ends with the first newline (10); the file is what stands behind it.
unfoldable pub line_of : List ℕ → List ℕ
line_of input = before 10 input

unfoldable pub file_of : List ℕ → List ℕ
file_of input = drop (suc (length (line_of input))) input

-- The line has 4,095 bytes at most before its newline, the file 60,000.
unfoldable pub fits : List ℕ → Bool
fits input =
    ltb (length (line_of input)) (length input) && leb (length (line_of input)) 4095
    && leb (length (file_of input)) 60000

-- The order is R (82) or U (85); to the library these are 0 and 1.
unfoldable pub order_number : List ℕ → Option ℕ
order_number w = cond (is_only 82 w) (Some 0) (cond (is_only 85 w) (Some 1) None)

-- The line is `O L address elementbytes order rank` and 3 × rank lengths: the chunk's, the present and the maximum
-- ones. O and L are below 256, other numbers below 2^64; a maximum length may be `*` (42), unlimited. The number of
-- word i, counted from 0:
unfoldable pub word_number : ℕ → ℕ → List ℕ → Option ℕ
word_number rank i w =
    cond (ltb i 2) (number_of 255 w)
    (cond (eqb i 4) (order_number w)
    (cond (leb (6 + 2 * rank) i && is_only 42 w) (Some largest64) (number_of largest64 w)))

-- what is made of a word's number, or this where it has none
unfoldable pub if_number : {A : Type 0} → Option ℕ → A → (ℕ → A) → A
if_number None x f = x
if_number (Some n) x f = f n

-- a question with the number of word i; lengths are no part of it
unfoldable pub with_number : Question → ℕ → ℕ → Question
with_number q i n = record {
  offset_size = cond (eqb i 0) n q.offset_size;
  length_size = cond (eqb i 1) n q.length_size;
  address = cond (eqb i 2) n q.address;
  element_bytes = cond (eqb i 3) n q.element_bytes;
  order = cond (eqb i 4) n q.order;
  rank = cond (eqb i 5) n q.rank;
}

-- what is asked for before the first word
abbrev pub no_question : Question
no_question = record { offset_size = 0; length_size = 0; address = 0; element_bytes = 0; order = 0; rank = 0 }

-- what a line asks for, where the words before word i ask for q and these follow: a line of another form is
-- unreadable; ..
unfoldable pub question_from : Question → ℕ → List (List ℕ) → Option Question
question_from q i [] = cond (eqb i (6 + 3 * q.rank)) (Some q) None
question_from q i (w ∷ ws) = if_number (word_number q.rank i w) None (λ n. question_from (with_number q i n) (suc i) ws)

-- .. and the numbers of these words, up to the first that has none
unfoldable pub numbers_from : Question → ℕ → List (List ℕ) → List ℕ
numbers_from q i [] = []
numbers_from q i (w ∷ ws) = if_number (word_number q.rank i w) [] (λ n. n ∷ numbers_from (with_number q i n) (suc i) ws)

unfoldable pub line_question : List (List ℕ) → Option Question
line_question ws = question_from no_question 0 ws

-- A line or a file that is too long is unreadable too.
unfoldable pub question_of : List ℕ → Option Question
question_of input = cond (fits input) (line_question (words (line_of input))) None

-- The line's numbers are stored 8 bytes each.
unfoldable pub line_stored : List (List ℕ) → List ℕ → List ℕ
line_stored ws out = sets out 0 (offset_bytes (numbers_from no_question 0 ws))

unfoldable pub numbers_stored : List ℕ → List ℕ → List ℕ
numbers_stored input out = cond (fits input) (line_stored (words (line_of input)) out) out
