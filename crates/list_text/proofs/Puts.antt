-- Laws of texts that are put one behind the other. Assumes nothing.
use mathlib.Core.Path.{◌≡◌, refl, sym, ◌∙◌}
use mathlib.Core.List.{List, [], ◌++◌, append_assoc}
use Prim.Native.Nat.{ℕ, ◌+◌, ◌-◌, ◌≤◌}
use native.Mathlib.Omega.{arith}
use borrow.Rule.Slice.PartMut.{put_mid}
use lib.ListN.{length, take, drop, length-append}
use lib.Seq.{sets, sets-eq, drop-drop}
use Rattle.records.proofs.Records.{sets_append}
use Rattle.list_text.specs.Printed.{Put}
use Rattle.list_text.specs.Appended.{Appended}
use Rattle.list_text.specs.declared.Text.{Text}

-- a text that is copied into the part of a buffer from `at` on
pub text_put : (out text : List ℕ) (at : ℕ) → at + length text ≤ length out → put_mid at (at + length text - at) out text ≡ sets out at text
text_put out text at h =
    let wide : at + length text - at ≡ length text = omega arith in
    rw (wide, drop-drop (length text) at out, sets-eq text out at h) (sym (append_assoc (take at out) text (drop (at + length text) out)))

pub put_as : {out : List ℕ} {at : ℕ} {a mid : List ℕ} {next : ℕ} → Put out at a mid next → (b : List ℕ) → a ≡ b → Put out at b mid next
put_as p b e = rw e at p

module _ {t : Text} {a : List ℕ} {t' : Text} (p : Appended t a t') where
  -- another text behind it
  pub appended_then : {b : List ℕ} {t'' : Text} → Appended t' b t'' → Appended t (a ++ b) t''
  appended_then {b} q =
      let e = p.put in
      let f = q.put in
      record {
        same_reference = q.same_reference ∙ p.same_reference;
        put = record {
          ends = omega (arith, length-append a b, e.ends, f.ends);
          holds = f.holds ∙ rw (e.holds, e.ends) (sym (sets_append t.out.now t.end a b));
        };
      }

  pub appended_as : (b : List ℕ) → a ≡ b → Appended t b t'
  appended_as b e = rw e at p

  -- what a buffer holds that the text is put into
  pub put_left : {out : List ℕ} → (t.out.ghost_name ≡ t'.out.ghost_name → out ≡ t'.out.now) → Put t.out.now t.end a out t'.end
  put_left h = rw (h (sym p.same_reference)) p.put

-- While a whole text is put behind what a text has, its rest goes behind what is put.
pub record Putting (t₀ : Text) (whole : List ℕ) (t : Text) (rest : List ℕ) : Type 0 where
  pub same_reference : t.out.ghost_name ≡ t₀.out.ghost_name
  pub content : sets t.out.now t.end rest ≡ sets t₀.out.now t₀.end whole
  pub ends : t.end + length rest ≡ t₀.end + length whole

pub put_none : (t : Text) (whole : List ℕ) → Putting t whole t whole
put_none t whole = record { same_reference = refl; content = refl; ends = refl }

module _ {t₀ : Text} {whole : List ℕ} {t : Text} where
  -- the next part is put
  pub put_more : {part rest : List ℕ} {t' : Text} → Putting t₀ whole t (part ++ rest) → Appended t part t' → Putting t₀ whole t' rest
  put_more {part} {rest} p q =
      let f = q.put in
      record {
        same_reference = q.same_reference ∙ p.same_reference;
        content = rw (f.holds, f.ends) (sym (sets_append t.out.now t.end part rest) ∙ p.content);
        ends = omega (arith, length-append part rest, f.ends, p.ends);
      }

  -- nothing is left
  pub put_all : Putting t₀ whole t [] → Appended t₀ whole t
  put_all p = record { same_reference = p.same_reference; put = record { ends = omega (arith, p.ends); holds = p.content } }
