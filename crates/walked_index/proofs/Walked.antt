-- What an accepted walk of an index leaves to the walk that writes. Assumes nothing.
use Prim.Native.Nat.{ℕ, ◌/◌, ◌<◌, ◌≤◌}
use mathlib.Core.Path.{◌≡◌, refl, subst}
use mathlib.Core.List.{List}
use native.Mathlib.Omega.{arith}
use lib.ListN.{length}
use Rattle.std.specs.Prelude.{Ok}
use Rattle.element_form.specs.declared.Form.{Form}
use Rattle.index.specs.Index.{Rec, Listing}
use Rattle.elements.specs.declared.ElementReader.{ElementReader}
use Rattle.elements.specs.Elements.{Elements}
use Rattle.elements.specs.Values.{elements_of}
use Rattle.records.specs.Records.{record_length, list_bytes}
use Rattle.located.specs.Located.{Located}
use Rattle.located.specs.declared.Run.{Run}
use Rattle.located.specs.Values.{RunOf}
use Rattle.located.proofs.Walks.{Right}
use Rattle.located.proofs.Lists.{list-fits}
use Rattle.walked_index.specs.Walked.{Walked, WalkedTo}

-- an index's own laws, in a file
pub record Laws (walk : Elements → Listing) (located : Elements → Located) (form : Form) (count : ℕ) : Type 0 where
  pub elements : (e : Elements) → (located e).elements ≡ e
  pub right : (e : Elements) → form ≡ e.form → count ≡ e.count → (l : List Rec) → walk e ≡ Ok l → Right (located e) 0 l

-- where elements lie, with others in their place
abbrev with : Located → Elements → Located
with x e = record { elements = e; tests = x.tests; reached = x.reached; position = x.position }

module _ {walk : Elements → Listing} (located : Elements → Located) {form : Form} {count : ℕ} {f : List ℕ} {r : ElementReader} {l : List Rec}
    (w : Walked walk form count f r l) where
  abbrev e : Elements
  e = elements_of f r w.grid w.element_bytes

  -- where its elements lie
  abbrev pub walked_in : Located
  walked_in = with (located e) e

  module _ (x : Laws walk located form count) where
    own : (P : Located → Type 0) → P (located e) → P walked_in
    own P p = subst (λ (y : Elements). P (with (located e) y)) (x.elements e) p

    pub walked_right : Right walked_in 0 l
    walked_right = own (λ (y : Located). Right y 0 l) (x.right e w.formed w.counted l w.accepts)

    pub walked_run : (s : ℕ) (run : Run) → ((e : Elements) → e.file ≡ f → form ≡ e.form → RunOf (located e) s run) → RunOf walked_in s run
    walked_run s run h = own (λ (y : Located). RunOf y s run) (h e refl w.formed)

    -- records that have room for their number have room for their bytes
    pub walked_fits : (n : ℕ) → length l ≤ n / record_length r.numbering.now.grid.now.rank → length (list_bytes l) ≤ n
    walked_fits n le =
        let b = w.reads.numbered in
        list-fits walked_in b.built l walked_right n (subst (λ (y : ℕ). length l ≤ n / record_length y) b.ranked le)

-- a slot below the count
pub walked_to : {walk : Elements → Listing} {form : Form} {count : ℕ} {f : List ℕ} {r : ElementReader} {l : List Rec}
    (w : Walked walk form count f r l) (s : ℕ) → s < r.count → WalkedTo walk form count f s
walked_to {f = f} {r = r} {l = l} w s lt = record {
  elements = elements_of f r w.grid w.element_bytes;
  list = l;
  read = refl;
  formed = w.formed;
  counted = w.counted;
  below = omega (arith, w.counted);
  accepts = w.accepts;
}
