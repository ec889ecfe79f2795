-- The bytes of a list of records.
use Rattle.std.specs.Prelude.{ℕ, zero, suc, ◌+◌, ◌*◌, List, [], ◌∷◌, ◌++◌, drop, Err, Ok}
use Rattle.std.proofs.lemmas.List.Edits.{sets}
use Rattle.fields.specs.LittleEndian.{le_at, le_bytes}
use Rattle.shapes.specs.Shapes.{numbers_in}
use Rattle.index.specs.Index.{Rec, Listing}

-- A record has 16 + 8 × rank bytes: ..
unfoldable pub record_length : ℕ → ℕ
record_length rank = 16 + 8 * rank

-- .. address 8, size 4, mask 4, offsets 8 each.
unfoldable pub offset_bytes : List ℕ → List ℕ
offset_bytes [] = []
offset_bytes (o ∷ os) = le_bytes 8 o ++ offset_bytes os

unfoldable pub record_bytes : Rec → List ℕ
record_bytes r =
    le_bytes 8 r.entry.address ++ le_bytes 4 r.entry.size ++ le_bytes 4 r.entry.mask ++ offset_bytes r.corner

unfoldable pub list_bytes : List Rec → List ℕ
list_bytes [] = []
list_bytes (r ∷ l) = record_bytes r ++ list_bytes l

-- The lent list then: the records from its start on; bytes behind the last record stay. After a refusal it is as it
-- was.
unfoldable pub list_content : Listing → List ℕ → List ℕ
list_content (Err r) out = out
list_content (Ok l) out = sets out 0 (list_bytes l)

-- the records that bytes hold, one behind the other
unfoldable pub record_in : ℕ → List ℕ → Rec
record_in rank s =
    record {
      entry = record { address = le_at s 0 8; size = le_at s 8 4; mask = le_at s 12 4 };
      corner = numbers_in rank (drop 16 s);
    }

unfoldable pub records_in : ℕ → ℕ → List ℕ → List Rec
records_in rank zero s = []
records_in rank (suc n) s = record_in rank s ∷ records_in rank n (drop (record_length rank) s)
