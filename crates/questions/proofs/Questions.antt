-- Laws of a line's question and of its numbers, read word by word. Assumes nothing.
use mathlib.Core.Path.{◌≡◌, refl, sym, ◌∙◌}
use mathlib.Core.Bool.{cond}
use mathlib.Core.List.{List, []}
use Prim.Native.Nat.{ℕ, suc, ◌+◌, ◌*◌, ◌≤◌, ◌<◌}
use native.Mathlib.Omega.{arith}
use lib.Dec.{eqb}
use lib.ListN.{length, get_or, drop, drop_of_length-le}
use lib.Seq.{sets, length-sets, drop-cons}
use Rattle.std.specs.Prelude.{None, Some}
use Rattle.fields.specs.LittleEndian.{le_bytes}
use Rattle.records.specs.Records.{offset_bytes}
use Rattle.records.proofs.Records.{sets_bytes}
use Rattle.questions.specs.Text.{words}
use Rattle.questions.specs.Line.{word_number, if_number, no_question, with_number, question_from, numbers_from, line_question, line_stored}
use Rattle.questions.specs.declared.Question.{Question}

-- While a line is read, i words are: what the others come to is what the line comes to.
pub record Parsing (out₀ line out : List ℕ) (q : Question) (i : ℕ) : Type 0 where
  pub size : length out ≡ length out₀
  pub question : question_from q i (drop i (words line)) ≡ line_question (words line)
  pub stored : sets out (8 * i) (offset_bytes (numbers_from q i (drop i (words line)))) ≡ line_stored (words line) out₀

-- the default of a question, whose fields are 0
of_zeros : (o l a n r k : ℕ) → o ≡ 0 → l ≡ 0 → a ≡ 0 → n ≡ 0 → r ≡ 0 → k ≡ 0
    → record { offset_size = o; length_size = l; address = a; element_bytes = n; order = r; rank = k } ≡ no_question
of_zeros o l a n r k e f g h i j = rw (e, f, g, h, i, j) refl

pub question_default : (q : Question) → (q.offset_size ≡ 0) × ((q.length_size ≡ 0) × ((q.address ≡ 0) × ((q.element_bytes ≡ 0) × ((q.order ≡ 0) × (q.rank ≡ 0))))) → q ≡ no_question
question_default q z = of_zeros q.offset_size q.length_size q.address q.element_bytes q.order q.rank z.0 z.1.0 z.1.1.0 z.1.1.1.0 z.1.1.1.1.0 z.1.1.1.1.1

pub parsing_first : (out line : List ℕ) → Parsing out line out no_question 0
unfolding line_question line_stored
parsing_first out line = record { size = refl; question = refl; stored = refl }

module _ {out₀ line out : List ℕ} {q : Question} {i : ℕ} (p : Parsing out₀ line out q i) where
  module _ (here : i < length (words line)) (w : List ℕ) (is : w ≡ get_or (words line) i []) where
    -- a word has a number
    pub parsing_on : (n : ℕ) → Some n ≡ word_number q.rank i w
        → Parsing out₀ line (sets out (8 * i) (le_bytes 8 n)) (with_number q i n) (i + 1)
    unfolding question_from numbers_from if_number offset_bytes
    parsing_on n e =
        let more : i + 1 ≡ suc i = omega arith in
        let place : 8 * i + 8 ≡ 8 * suc i = omega arith in
        let split = rw (← is) at (drop-cons (words line) i [] here) in
        record {
          size = length-sets out (8 * i) (le_bytes 8 n) ∙ p.size;
          question = rw more (rw (split, ← e) at p.question);
          stored = rw (more, ← place) (sym (sets_bytes out (8 * i) 8 n _) ∙ rw (split, ← e) at p.stored);
        }

    -- a word has none
    pub parsing_refused : None ≡ word_number q.rank i w → (None ≡ line_question (words line)) × (out ≡ line_stored (words line) out₀)
    unfolding question_from numbers_from if_number offset_bytes
    parsing_refused e =
        let split = rw (← is) at (drop-cons (words line) i [] here) in
        (rw (split, ← e) at p.question, rw (split, ← e) at p.stored)

  -- no word is left
  pub parsing_end : length (words line) ≤ i → (cond (eqb i (6 + 3 * q.rank)) (Some q) None ≡ line_question (words line)) × (out ≡ line_stored (words line) out₀)
  unfolding question_from numbers_from offset_bytes
  parsing_end h =
      let last = drop_of_length-le (words line) {i = i} h in
      (rw last at p.question, rw last at p.stored)
