-- Runs of elements: the list that they are walked to. Each definition of a walk says what is left to do from here:
-- `rest` is what comes behind it, and s the slot that the walk has come to.
use Rattle.std.specs.Prelude.{ℕ, zero, suc, ◌+◌, not, cond, leb, ltb, Err, None, Ok, Option, Some}
use Rattle.refusal.specs.Refusals.{Outcome}
use Rattle.refusal.specs.Outcome.{also, ◌yields◌}
use Rattle.structures.specs.Structures.{Pages}
use Rattle.element_form.specs.Form.{stride}
use Rattle.index.specs.Index.{Rec, Listing}
use Rattle.elements.specs.Elements.{Elements, element}

-- what an element gives in front of what is left
unfoldable pub also_element : Outcome (Option Rec) → Listing → Listing
also_element (Err r) a = Err r
also_element (Ok None) a = a
also_element (Ok (Some x)) a = also x a

-- the elements from pos on, j of them; none at or past the published count is read
unfoldable pub elements_from : Elements → ℕ → ℕ → ℕ → Listing → Listing
elements_from e pos zero s rest = rest
elements_from e pos (suc j) s rest =
    cond (leb e.count s) rest
    (also_element (element e pos s) (elements_from e (pos + stride e.form) j (s + 1) rest))

-- The pages of a data block, j of them from p on. A clear page is stepped over by its full stride.
-- A set page that runs past the count is tested, then ends its data block.
unfoldable pub pages_from : Elements → Pages → ℕ → ℕ → ℕ → Listing → Listing
pages_from e g zero p s rest = rest
pages_from e g (suc j) p s rest =
    let next = pages_from e g j (p + 1) (s + g.size) rest in
    cond (not (g.set p)) next
    (g.test p yields elements_from e (g.position p) g.size s (cond (ltb e.count (s + g.size)) rest next))
