-- Refusals, and tests that are made in an order.
use Rattle.std.specs.Prelude.{ℕ, ◌-◌, ◌^◌, min, Bool, cond, Result, Ok, Err}
use Rattle.refusal.specs.declared.Refusal.{Refusal}

-- What a call comes to: an answer, or one refusal.
abbrev pub Outcome : Type 0 → Type 0
Outcome A = Result A Refusal

-- What a test answers: it is passed, or one refusal.
abbrev pub Checked : Type 0
Checked = Outcome (Unit {0})

-- Beyond 2^64 − 1 a figure in a refusal is given as 2^64 − 1.
abbrev pub largest64 : ℕ
largest64 = 2 ^ 64 - 1

unfoldable pub figure : ℕ → ℕ
figure n = min n largest64

-- refused where b holds
unfoldable pub refuse : Refusal → Bool → Checked
refuse r b = cond b (Err r) (Ok tt)

-- The second test is made only where the first has passed.
infixr 10 ◌then◌
unfoldable pub ◌then◌ : Checked → Checked → Checked
Ok _ then t = t
Err r then t = Err r
