-- What is left to write, and each step from there. Assumes nothing.
use Prim.Native.Nat.{ℕ, suc, ◌+◌, ◌-◌, ◌<◌}
use mathlib.Core.Path.{◌≡◌, refl, sym, ap, subst, ◌∙◌}
use mathlib.Core.Bool.{true, false}
use mathlib.Core.List.{List, [], ◌∷◌, ◌++◌}
use native.Mathlib.Omega.{arith}
use lib.ListN.{length, set, length-append}
use lib.Seq.{sets, length-sets}
use Rattle.std.specs.Prelude.{Err, Ok}
use Rattle.refusal.specs.Outcome.{also}
use Rattle.ea_blocks.specs.Array.{Array}
use Rattle.ea_blocks.specs.Structures.{data_block, block_undefined}
use Rattle.span_walk.specs.declared.Span.{Span}
use Rattle.span_walk.specs.Spans.{span_of}
use Rattle.span_walk.specs.Walk.{Spanning, joined, block_spans}
use Rattle.span_walk.proofs.Joined.{Parts, joined_inv, also-joined}
use Rattle.span_walk.proofs.Turns.{blocks-undefined, blocks_defined}
use Rattle.ea_spans.specs.SpanList.{each, filled, address_of, length_of}
use Rattle.ea_spans.specs.declared.lists.SpanLists.{SpanLists}
use Rattle.ea_spans.specs.Values.{Room, Written, end_of}

-- two lists of spans, one behind the other
sets_each : (part : Span → ℕ) (l m : List Span) (out : List ℕ) (n : ℕ)
    → sets out n (each part (l ++ m)) ≡ sets (sets out n (each part l)) (n + length l) (each part m)
unfolding each
sets_each part [] m out n = let z : n + 0 ≡ n = omega arith in rw z refl
sets_each part (s ∷ l) m out n =
    let z : n + suc (length l) ≡ suc n + length l = omega arith in
    rw z (sets_each part l m (set out n (part s)) (suc n))

-- a list that is written into keeps its length
pub length-filled : (part : Span → ℕ) (a : Spanning) (n : ℕ) (out : List ℕ) → length (filled part a n out) ≡ length out
unfolding filled
length-filled part (Err r) n out = refl
length-filled part (Ok l) n out = length-sets out n (each part l)

module _ (a b : Spanning) (l : List Span) (p : Parts a b l) (n : ℕ) where
  filled-joined : (part : Span → ℕ) (out : List ℕ)
      → filled part (joined a b) n out ≡ filled part b (end_of n a) (filled part a n out)
  unfolding filled joined
  filled-joined part out = rw (p.first_is, p.second_is) (sets_each part p.first p.second out n)

  end_joined : (end_of n (joined a b) ≡ end_of (end_of n a) b) × (end_of n a ≡ n + length p.first)
  unfolding joined
  end_joined = rw (p.first_is, p.second_is) (omega (arith, length-append p.first p.second), refl)

-- The spans a, written into `now`, make of two lists what the spans b, written into `from`, make of them.
pub record Going (b : Spanning) (from : SpanLists) (a : Spanning) (now : SpanLists) : Type 0 where
  pub room : Room a now
  pub same_addresses : now.addresses.ghost_name ≡ from.addresses.ghost_name
  pub same_lengths : now.lengths.ghost_name ≡ from.lengths.ghost_name
  pub first : filled address_of a now.next now.addresses.now ≡ filled address_of b from.next from.addresses.now
  pub second : filled length_of a now.next now.lengths.now ≡ filled length_of b from.next from.lengths.now
  pub end : end_of now.next a ≡ end_of from.next b

pub going_whole : {b : Spanning} {from : SpanLists} → Room b from → Going b from b from
going_whole r = record { room = r; same_addresses = refl; same_lengths = refl; first = refl; second = refl; end = refl }

module _ {b : Spanning} {from now : SpanLists} where
  -- the same said of what is left in another form
  pub going_as : {a d : Spanning} → a ≡ d → Going b from a now → Going b from d now
  going_as q g = subst (λ (x : Spanning). Going b from x now) q g

  -- all that is left is written
  pub going_done : {a : Spanning} {to : SpanLists} → Going b from a now → Written a now to → Written b from to
  going_done g w = record {
    same_addresses = w.same_addresses ∙ g.same_addresses;
    same_lengths = w.same_lengths ∙ g.same_lengths;
    addresses = w.addresses ∙ g.first;
    lengths = w.lengths ∙ g.second;
    next = w.next ∙ g.end;
  }

  -- nothing is left
  pub going_none : Going b from (Ok []) now → Written b from now
  unfolding filled each
  going_none g =
      let z : now.next ≡ now.next + 0 = omega arith in
      going_done g (record { same_addresses = refl; same_lengths = refl; addresses = refl; lengths = refl; next = z })

  -- the first part fits, and what is left behind it
  module _ (a d : Spanning) (g : Going b from (joined a d) now) where
    pub going_room : Room a now
    going_room =
        let r = g.room in
        let p = joined_inv a d r.list r.is in
        let k = ap length p.is ∙ length-append p.first p.second in
        record { list = p.first; is = p.first_is; first = omega (arith, r.first); second = omega (arith, r.second) }

    pub going_behind : {to : SpanLists} → Written a now to → Going b from d to
    going_behind w =
        let r = g.room in
        let p = joined_inv a d r.list r.is in
        let k = ap length p.is ∙ length-append p.first p.second in
        let n = now.next in
        let j = end_joined a d _ p n in
        record {
          room = record {
            list = p.second;
            is = p.second_is;
            first = omega (arith, r.first, j.1, w.next, ap length w.addresses ∙ length-filled address_of a n now.addresses.now);
            second = omega (arith, r.second, j.1, w.next, ap length w.lengths ∙ length-filled length_of a n now.lengths.now);
          };
          same_addresses = w.same_addresses ∙ g.same_addresses;
          same_lengths = w.same_lengths ∙ g.same_lengths;
          first = rw (w.addresses, w.next) (sym (filled-joined a d _ p n address_of now.addresses.now) ∙ g.first);
          second = rw (w.lengths, w.next) (sym (filled-joined a d _ p n length_of now.lengths.now) ∙ g.second);
          end = rw w.next (sym j.0 ∙ g.end);
        }

  -- the next span fits, and what is left behind it
  module _ (s : Span) (a : Spanning) (g : Going b from (also s a) now) where
    pub going_fits : (now.next < length now.addresses.now) × (now.next < length now.lengths.now)
    going_fits =
        let r = going_room _ _ (going_as (also-joined s a) g) in
        let z : s ∷ [] ≡ r.list = cc in
        (omega (arith, r.first, ap length z), omega (arith, r.second, ap length z))

    pub going_put : {to : SpanLists} → Written (Ok (s ∷ [])) now to → Going b from a to
    going_put = going_behind _ _ (going_as (also-joined s a) g)

  -- one data block of super block u
  module _ (a : Array) (u j k : ℕ) (lt : k < j) (g : Going b from (Ok (block_spans a u (j - k) k)) now) where
    pub going_skip : block_undefined a u k ≡ true → Going b from (Ok (block_spans a u (j - (k + 1)) (k + 1))) now
    going_skip e = going_as (ap Ok (blocks-undefined a u j k lt e)) g

    pub going_block : block_undefined a u k ≡ false → (s : Span) → s ≡ span_of a (data_block u k)
        → Going b from (also s (Ok (block_spans a u (j - (k + 1)) (k + 1)))) now
    unfolding also
    going_block e s q = rw q (going_as (ap Ok (blocks_defined a u j k lt e)) g)
