-- Where a path to slot s of an index ends that leads so, whatever the elements. Assumes nothing.
use Prim.{tt}
use Prim.Native.Nat.{ℕ, ◌+◌, ◌≤◌}
use mathlib.Core.Path.{◌≡◌, ap, ◌∙◌}
use mathlib.Core.List.{List}
use lib.ListN.{length}
use Rattle.std.specs.Prelude.{Err, None, Ok, Some}
use Rattle.refusal.specs.declared.Refusal.{Refusal}
use Rattle.element_form.specs.declared.Form.{Form}
use Rattle.element_form.specs.Form.{stride}
use Rattle.elements.specs.Elements.{Elements, element}
use Rattle.located.specs.Located.{Located}
use Rattle.located.proofs.Paths.{LeadsTo, LeadsNowhere, way_to, way_nowhere, way_refused}
use Rattle.walked_index.specs.PathEnds.{end_answer, PathEnds}

module _ {x : Elements → Located} {file : List ℕ} {form : Form} {s : ℕ} where
  pub ends_nowhere : ((e : Elements) → LeadsNowhere (x e) s) → PathEnds x file form s (Ok None)
  unfolding end_answer
  ends_nowhere h = record { answer = λ e same. way_nowhere (x e) s (h e); inside = tt }

  pub ends_refused : (r : Refusal) → ((e : Elements) → (x e).tests s ≡ Err r) → PathEnds x file form s (Err r)
  unfolding end_answer
  ends_refused r h = record { answer = λ e same. way_refused (x e) s r (h e); inside = tt }

  -- where the elements are the index's own
  pub ends_at : ((e : Elements) → (x e).elements ≡ e) → (pos : ℕ) → ((e : Elements) → LeadsTo (x e) s pos)
      → pos + stride form ≤ length file → PathEnds x file form s (Ok (Some pos))
  unfolding end_answer
  ends_at own pos h room = record {
    answer = λ e same. way_to (x e) s pos (h e) ∙ ap (λ (y : Elements). element y pos s) (own e);
    inside = room;
  }
