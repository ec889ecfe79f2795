-- Span records in a lent list: where they fit, and what they are. Assumes nothing.
use Prim.Native.Nat.{ℕ, zero, suc, ◌+◌, ◌<◌, ◌≤◌}
use mathlib.Core.Path.{◌≡◌, refl, sym, ap, ◌∙◌}
use mathlib.Core.List.{List, [], ◌∷◌, ◌++◌}
use native.Mathlib.Omega.{arith}
use borrow.Author.Tests.{lt-ltb, le-ltb}
use lib.ListN.{length, get_or, take, set, length-take, get_or-append}
use lib.Seq.{sets, sets-eq, take-suc, take_all}
use Rattle.std.specs.Prelude.{Err, Ok}
use Rattle.refusal.specs.declared.Refusal.{Refusal}
use Rattle.refusal.specs.declared.Refusal.TheVariants.{ListTooSmall}
use Rattle.refusal.specs.Refusals.{refuse}
use Rattle.refusal.specs.Outcome.{in_room}
use Rattle.refusal.specs.Values.{counted_of}
use Rattle.refusal.proofs.Outcomes.{room_had}
use Rattle.refusal.proofs.Counts.{counted_inv, refused_inv}
use Rattle.span_walk.specs.declared.Span.{Span}
use Rattle.span_walk.specs.Walk.{Spanning}
use Rattle.ea_spans.specs.SpanList.{each, filled, address_of, length_of}
use Rattle.ea_spans.proofs.Writing.{length-filled}
use Rattle.span_records.specs.Stored.{span_at, stored, record_room, room_test, stored_number, stored_where, recorded}

-- the test's two answers
module _ (n room : ℕ) where
  pub room_passed : n ≤ room → Ok tt ≡ room_test n room
  unfolding room_test refuse
  room_passed le = rw (le-ltb room n le) refl

  pub room_refused : room < n → Err (ListTooSmall n) ≡ room_test n room
  unfolding room_test refuse
  room_refused lt = rw (lt-ltb room n lt) refl

  -- none, where there is not
  pub number_none : room < n → stored_number (room_test n room) n ≡ 0
  unfolding stored_number
  number_none lt = rw (sym (room_refused lt)) refl

  -- all of n, where there is room
  pub number_all : n ≤ room → stored_number (room_test n room) n ≡ n
  unfolding stored_number
  number_all le = rw (sym (room_passed le)) refl

-- one store more
sets_snoc : (l : List Span) (i : ℕ) (a : List Span) (x : Span) → sets l i (a ++ (x ∷ [])) ≡ set (sets l i a) (i + length a) x
sets_snoc l i [] x = let e : i + 0 ≡ i = omega arith in rw e refl
sets_snoc l i (y ∷ a) x =
    let e : i + suc (length a) ≡ suc i + length a = omega arith in
    rw e (sets_snoc (set l i y) (suc i) a x)

-- the numbers of spans, one for each
length-each : (part : Span → ℕ) (l : List Span) → length (each part l) ≡ length l
unfolding each
length-each part [] = refl
length-each part (s ∷ l) = ap suc (length-each part l)

get_d_each : (part : Span → ℕ) (l : List Span) (i : ℕ) (d : Span) → i < length l → get_or (each part l) i 0 ≡ part (get_or l i d)
unfolding each
get_d_each part [] i d h = absurd (omega arith)
get_d_each part (s ∷ l) zero d h = refl
get_d_each part (s ∷ l) (suc i) d h = get_d_each part l i d (omega arith)

get_d_filled : (part : Span → ℕ) (l : List Span) (xs : List ℕ) (i : ℕ) (d : Span) → length l ≤ length xs → i < length l
    → get_or (filled part (Ok l) 0 xs) i 0 ≡ part (get_or l i d)
unfolding filled
get_d_filled part l xs i d le lt =
    let n = length-each part l in
    ap (λ (y : List ℕ). get_or y i 0) (sets-eq (each part l) xs 0 (omega arith))
    ∙ get_or-append (each part l) _ 0 i (omega arith)
    ∙ get_d_each part l i d lt

-- Spans that were listed into two lists, stored as records: the records are those spans.
module _ (l : List Span) (xs ls : List ℕ) (ys : List Span) (a : length l ≤ length xs) (b : length l ≤ length ls) where
  abbrev A : List ℕ
  A = filled address_of (Ok l) 0 xs

  abbrev L : List ℕ
  L = filled length_of (Ok l) 0 ls

  none : Span
  none = record { address = 0; length = 0 }

  stored-take : (n : ℕ) → n ≤ length l → stored n A L ys ≡ sets ys 0 (take n l)
  stored-take zero h = refl
  stored-take (suc n) h =
      let at : span_at A L n ≡ get_or l n none = rw (get_d_filled address_of l xs n none a h, get_d_filled length_of l ls n none b h) refl in
      let k : 0 + length (take n l) ≡ n = omega (arith, length-take n l) in
      rw (stored-take n (omega arith), at, take-suc l n none h, sets_snoc ys 0 (take n l) (get_or l n none), k) refl

  spans-stored : stored (length l) A L ys ≡ sets ys 0 l
  spans-stored = stored-take (length l) (omega arith) ∙ ap (sets ys 0) (take_all (length l) l (omega arith))

-- Listed and then stored, they are recorded.
module _ (a : Spanning) (xs ls : List ℕ) (ys : List Span) where
  abbrev listed : Spanning
  listed = in_room a (record_room xs ls ys)

  abbrev filled_addresses : List ℕ
  filled_addresses = filled address_of listed 0 xs

  abbrev filled_lengths : List ℕ
  filled_lengths = filled length_of listed 0 ls

  module _ (n : ℕ) (e : Ok n ≡ counted_of listed) where
    pub listed_fit : n ≤ record_room filled_addresses filled_lengths ys
    listed_fit =
        let i = counted_inv listed n e in
        let k = room_had a (record_room xs ls ys) i.0 i.1 in
        let x = length-filled address_of listed 0 xs in
        let y = length-filled length_of listed 0 ls in
        let z = i.2 in
        omega arith

    pub spans_recorded : stored n filled_addresses filled_lengths ys ≡ recorded listed ys
    unfolding recorded
    spans_recorded =
        let i = counted_inv listed n e in
        let k = room_had a (record_room xs ls ys) i.0 i.1 in
        go i.0 listed i.1 n i.2 (omega arith) (omega arith)
      where
        go : (l : List Span) (t : Spanning) → t ≡ Ok l → (m : ℕ) → m ≡ length l → length l ≤ length xs → length l ≤ length ls
            → stored m (filled address_of t 0 xs) (filled length_of t 0 ls) ys ≡ recorded t ys
        go l t p m q x y = rw (q, p) (spans-stored l xs ls ys x y)

    -- so they are where that is tested again
    pub listed_stored : stored_where n filled_addresses filled_lengths ys ≡ recorded listed ys
    listed_stored = rw (number_all n (record_room filled_addresses filled_lengths ys) listed_fit) spans_recorded

  pub refused_kept : (r : Refusal) → Err r ≡ counted_of listed → ys ≡ recorded listed ys
  unfolding recorded
  refused_kept r e = rw (refused_inv listed r e) refl
