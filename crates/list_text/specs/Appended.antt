-- A text that grows in a lent buffer.
use Rattle.std.specs.Prelude.{ℕ, ◌-◌, ◌≡◌, List, length}
use Rattle.list_text.specs.Printed.{Put}
use Rattle.list_text.specs.declared.Text.{Text}

-- how many bytes have room behind it
abbrev pub room : Text → ℕ
room t = length t.out.now - t.end

-- A text is put behind it, in the same buffer.
pub record Appended (t : Text) (text : List ℕ) (t' : Text) : Type 0 where
  pub same_reference : t'.out.ghost_name ≡ t.out.ghost_name
  pub put : Put t.out.now t.end text t'.out.now t'.end
