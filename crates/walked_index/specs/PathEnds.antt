-- What the code's values stand for: where the path to a slot ends.
use Rattle.std.specs.Prelude.{ℕ, ◌+◌, ◌≤◌, ◌≡◌, List, length, Err, None, Ok, Option, Some}
use Rattle.element_form.specs.declared.Form.{Form}
use Rattle.element_form.specs.Form.{stride}
use Rattle.index.specs.Index.{Rec}
use Rattle.elements.specs.Elements.{Elements, element}
use Rattle.located.specs.Located.{Located, path}
use Rattle.refusal.specs.Refusals.{Outcome}

-- What slot s is answered whose path ends so: at no element, at its element at a position, or with a refusal.
unfoldable pub end_answer : Elements → ℕ → Outcome (Option ℕ) → Outcome (Option Rec)
end_answer e s (Ok None) = Ok None
end_answer e s (Ok (Some pos)) = element e pos s
end_answer e s (Err r) = Err r

-- an element of this form at the end lies in the file
abbrev pub EndInFile : List ℕ → Form → Outcome (Option ℕ) → Type 0
EndInFile file form (Ok None) = Unit {0}
EndInFile file form (Ok (Some pos)) = pos + stride form ≤ length file
EndInFile file form (Err r) = Unit {0}

-- The path to slot s of an index ends so, for all elements of its form.
pub record PathEnds (x : Elements → Located) (file : List ℕ) (form : Form) (s : ℕ)
    (end : Outcome (Option ℕ)) : Type 0 where
  pub answer : (e : Elements) → form ≡ e.form → path (x e) s ≡ end_answer e s end
  pub inside : EndInFile file form end
