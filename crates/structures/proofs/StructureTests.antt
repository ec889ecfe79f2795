-- Laws of a structure's test: a structure that has passed lies in the file. Assumes nothing.
use Prim.Native.Nat.{ℕ, ◌+◌, ◌-◌, ◌^◌, ◌<◌, ◌≤◌}
use mathlib.Core.Path.{◌≡◌, sym, ap, ◌∙◌}
use mathlib.Core.List.{List}
use mathlib.Core.Logic.{⊎_elim}
use native.Mathlib.Omega.{arith}
use lib.ListN.{length, take, drop}
use Rattle.std.specs.Prelude.{Err, Ok}
use Rattle.refusal.specs.declared.Refusal.{Refusal}
use Rattle.refusal.specs.Refusals.{figure, largest64, ◌then◌, Checked}
use Rattle.refusal.proofs.Tests.{lt_or_ge, then_first, then_second, then_assoc, then_inv, then_passed}
use Rattle.fields.specs.Fields.{in_file}
use Rattle.fields.proofs.Fields.{inside, past_end, figure_in_file, figures_in_file}
use Rattle.checksum.specs.Trailing.{trailing_test}
use Rattle.structures.specs.declared.Kind.{Kind}
use Rattle.structures.specs.Structures.{signature_test, structure_test}
use Rattle.structures.specs.Header.{signed_header_test}

-- what the tests before the checksum say of the structure
module _ (kind : Kind) (f : List ℕ) (pos len : ℕ) where
  abbrev before : Checked
  before = in_file f pos len then signature_test kind f pos

  pub before_inside : Ok tt ≡ before → pos + len ≤ length f
  before_inside e = inside f pos len (then_passed _ _ e).0

  module _ (sum : List ℕ → ℕ) where
    pub before_refused : {r : Refusal} → Err r ≡ before → Err r ≡ structure_test sum kind f pos len
    unfolding structure_test
    before_refused e = then_first _ _ e ∙ then_assoc _ _ _

    -- its checksum decides; the code cuts the structure out from pos to pos + len
    pub before_passed : Ok tt ≡ before → trailing_test sum (take (pos + len - pos) (drop pos f)) ≡ structure_test sum kind f pos len
    unfolding structure_test
    before_passed e =
        let n : pos + len - pos ≡ len = omega arith in
        ap (λ (k : ℕ). trailing_test sum (take k (drop pos f))) n ∙ then_second _ _ e ∙ then_assoc _ _ _

-- a test that begins with 20 doesn't tell a length past 2^64 − 1 from 2^64 − 1
figure-first : (f : List ℕ) (pos len : ℕ) (next : ℕ → Checked) → length f < 2 ^ 63
    → in_file f pos (figure len) then next (figure len) ≡ in_file f pos len then next len
unfolding figure
figure-first f pos len next short =
    ⊎_elim (λ (lt : largest64 < len).
    let past = past_end f pos len (omega arith) in
    sym (then_first _ _ (past ∙ sym (figure_in_file f pos len short))) ∙ then_first _ _ past) (λ (le : len ≤ largest64).
    let e : figure len ≡ len = omega arith in
    rw e) (lt_or_ge largest64 len)

-- .. nor, both so given, a position and a length
figures_first : (f : List ℕ) (pos len : ℕ) (next : ℕ → ℕ → Checked) → length f < 2 ^ 63
    → in_file f (figure pos) (figure len) then next (figure pos) (figure len) ≡ in_file f pos len then next pos len
unfolding figure
figures_first f pos len next short =
    ⊎_elim (λ (lt : length f < pos + len).
    let past = past_end f pos len lt in
    sym (then_first _ _ (past ∙ sym (figures_in_file f pos len short))) ∙ then_first _ _ past) (λ (le : pos + len ≤ length f).
    let e : figure pos ≡ pos = omega arith in
    let d : figure len ≡ len = omega arith in
    rw (e, d)) (lt_or_ge (length f) (pos + len))

module _ (sum : List ℕ → ℕ) (f : List ℕ) (pos len : ℕ) where
  module _ (kind : Kind) where
    pub structure_inside : structure_test sum kind f pos len ≡ Ok tt → pos + len ≤ length f
    unfolding structure_test
    structure_inside t = inside f pos len (sym (then_inv _ _ t).0)

    pub figure_structure : length f < 2 ^ 63 → structure_test sum kind f pos (figure len) ≡ structure_test sum kind f pos len
    unfolding structure_test
    figure_structure short = figure-first f pos len (λ (n : ℕ). signature_test kind f pos then trailing_test sum (take n (drop pos f))) short

    pub figures_structure : length f < 2 ^ 63 → structure_test sum kind f (figure pos) (figure len) ≡ structure_test sum kind f pos len
    unfolding structure_test
    figures_structure short = figures_first f pos len (λ (i n : ℕ). signature_test kind f i then trailing_test sum (take n (drop i f))) short

  pub figure-header : (wrong : Refusal) (signature o l : ℕ) → length f < 2 ^ 63
      → signed_header_test wrong signature sum f pos (figure len) o l ≡ signed_header_test wrong signature sum f pos len o l
  unfolding signed_header_test
  figure-header wrong signature o l short = figure-first f pos len (λ (n : ℕ). _ then _ then trailing_test sum (take n (drop pos f))) short
