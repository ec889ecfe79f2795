-- A second walk, which writes the records of a first that was accepted: what is written, and the records of the slots
-- that are left, stored behind it, make the whole list. Assumes nothing.
use Prim.Native.Nat.{ℕ, ◌+◌, ◌-◌, ◌≤◌, min}
use mathlib.Core.Path.{◌≡◌, sym, ap, ◌∙◌}
use mathlib.Core.List.{List, [], ◌++◌}
use native.Mathlib.Nat.{zero-add}
use native.Mathlib.Omega.{arith}
use lib.ListN.{length, length-append}
use lib.Seq.{sets}
use Rattle.std.specs.Prelude.{Ok}
use Rattle.index.specs.Index.{Rec}
use Rattle.index.specs.SlotRecords.{records}
use Rattle.index.proofs.Records.{from, from_end, from_split}
use Rattle.elements.specs.Runs.{elements_from}
use Rattle.records.specs.Records.{list_bytes}
use Rattle.records.proofs.Records.{sets_append, list_append}
use Rattle.located.specs.declared.Run.TheVariants.{Gap, Elements}
use Rattle.located.specs.Located.{Located, index_of}
use Rattle.located.specs.Values.{RunOf}
use Rattle.located.proofs.Walks.{Right}
use Rattle.located.proofs.Runs.{gap_records, run_records}

-- Of the list l the slots before `slot` are written, from `out₀` on up to `at`.
pub record Written (x : Located) (l : List Rec) (out₀ out : List ℕ) (at slot : ℕ) : Type 0 where
  pub makes : sets out at (list_bytes (from (index_of x) slot)) ≡ sets out₀ 0 (list_bytes l)
  pub ends : at + length (list_bytes (from (index_of x) slot)) ≡ length (list_bytes l)

module _ {x : Located} {l : List Rec} where
  pub written_first : (out : List ℕ) → Right x 0 l → Written x l out out 0 0
  written_first out r = record {
    makes = ap (λ (k : List Rec). sets out 0 (list_bytes k)) (sym r.is);
    ends = ap (λ (k : List Rec). 0 + length (list_bytes k)) (sym r.is) ∙ zero-add (length (list_bytes l));
  }

  -- a run of elements is accepted with the records of its slots up to the count
  pub run_accepted : Right x 0 l → (slot pos n m : ℕ) → RunOf x slot (Elements pos n) → m ≡ min n (x.elements.count - slot)
      → elements_from x.elements pos n slot (Ok []) ≡ Ok (records (index_of x) slot m)
  run_accepted r slot pos n m k e =
      run_records x n pos slot (λ t le lt. r.paths t (omega arith) lt) k.2 ∙ ap (λ (y : ℕ). Ok (records (index_of x) slot y)) (sym e)

  module _ {out₀ out : List ℕ} {at slot : ℕ} (w : Written x l out₀ out at slot) where
    pub written_done : x.elements.count ≤ slot → out ≡ sets out₀ 0 (list_bytes l)
    unfolding list_bytes
    written_done le = let e = w.makes in rw (from_end (index_of x) slot le) at e

    -- the bytes that are left, in two parts
    bytes_split : (m : ℕ) → m ≤ x.elements.count - slot
        → list_bytes (from (index_of x) slot) ≡ list_bytes (records (index_of x) slot m) ++ list_bytes (from (index_of x) (slot + m))
    bytes_split m le = ap list_bytes (from_split (index_of x) slot m le) ∙ list_append (records (index_of x) slot m) (from (index_of x) (slot + m))

    length_split : (m : ℕ) → m ≤ x.elements.count - slot
        → length (list_bytes (from (index_of x) slot)) ≡ length (list_bytes (records (index_of x) slot m)) + length (list_bytes (from (index_of x) (slot + m)))
    length_split m le = ap length (bytes_split m le) ∙ length-append (list_bytes (records (index_of x) slot m)) (list_bytes (from (index_of x) (slot + m)))

    -- the records of m slots have room
    pub written_fits : (m : ℕ) → m ≤ x.elements.count - slot → at + length (list_bytes (records (index_of x) slot m)) ≤ length (list_bytes l)
    written_fits m le = omega (arith, w.ends, length_split m le)

    -- slots without elements
    pub written_gap : (n m : ℕ) → m ≡ min n (x.elements.count - slot) → RunOf x slot (Gap n) → Written x l out₀ out at (slot + m)
    written_gap n m e k =
        let g = gap_records x m slot (λ i lt. k.1 i (omega arith)) in
        let z : from (index_of x) (slot + m) ≡ from (index_of x) slot = sym (from_split (index_of x) slot m (omega arith) ∙ ap (λ (y : List Rec). y ++ from (index_of x) (slot + m)) g) in
        record { makes = ap (λ (y : List Rec). sets out at (list_bytes y)) z ∙ w.makes; ends = ap (λ (y : List Rec). at + length (list_bytes y)) z ∙ w.ends }

    -- slots with elements, whose records are written
    pub written_run : Right x 0 l → (pos n m : ℕ) → m ≡ min n (x.elements.count - slot) → RunOf x slot (Elements pos n) → (out' : List ℕ) (at' : ℕ)
        → ((k : List Rec) → elements_from x.elements pos n slot (Ok []) ≡ Ok k
        → (out' ≡ sets out at (list_bytes k)) × (at' ≡ at + length (list_bytes k)))
        → Written x l out₀ out' at' (slot + m)
    written_run r pos n m e k out' at' h =
        let b = records (index_of x) slot m in
        let q = h b (run_accepted r slot pos n m k e) in
        record {
          makes = rw (q.0, q.1)
              (sym (sets_append out at (list_bytes b) (list_bytes (from (index_of x) (slot + m)))) ∙ ap (sets out at) (sym (bytes_split m (omega arith))) ∙ w.makes);
          ends = omega (arith, q.1, length_split m (omega arith), w.ends);
        }
