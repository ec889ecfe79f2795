-- What the code's values stand for: runs of slots.
use Rattle.std.specs.Prelude.{ℕ, ◌+◌, ◌*◌, ◌<◌, ◌≤◌, ◌≡◌, true, false, length}
use Rattle.element_form.specs.Form.{stride}
use Rattle.located.specs.declared.Run.{Run}
use Rattle.located.specs.declared.Run.TheVariants.{Gap, Elements}
use Rattle.located.specs.Located.{Located}

-- slot s has its element at pos
pub record HasAt (l : Located) (s pos : ℕ) : Type 0 where
  pub reach : l.reached s ≡ true
  pub position : l.position s ≡ pos

-- the slots from s on are such a run
abbrev pub RunOf : Located → ℕ → Run → Type 0
RunOf l s (Gap n) = (0 < n) × ((i : ℕ) → i < n → l.reached (s + i) ≡ false)
RunOf l s (Elements pos n) =
    (0 < n)
    × (pos + n * stride l.elements.form ≤ length l.elements.file)
    × ((i : ℕ) → i < n → HasAt l (s + i) (pos + i * stride l.elements.form))
