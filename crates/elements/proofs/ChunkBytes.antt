-- The product of a chunk's lengths, capped at each step. Assumes nothing.
use Prim.Native.Nat.{ℕ, ◌*◌, ◌≤◌}
use mathlib.Core.Path.{◌≡◌, sym, ap, ◌∙◌}
use mathlib.Core.List.{List, [], ◌∷◌}
use native.Mathlib.Omega.{arith}
use native.Mathlib.Nat.{mul_comm, mul_assoc}
use Rattle.std.specs.Prelude.{fold}
use Rattle.refusal.specs.Refusals.{figure, largest64}
use Rattle.fields.proofs.Numbers.{figure_le, figure_mul}
use Rattle.elements.specs.Elements.{product}

swap : (p b x : ℕ) → p * (b * x) ≡ x * p * b
swap p b x = ap (λ (y : ℕ). p * y) (mul_comm b x) ∙ sym (mul_assoc p x b) ∙ ap (λ (y : ℕ). y * b) (mul_comm p x)

figure_is : (n : ℕ) → n ≤ largest64 → n ≡ figure (1 * n)
unfolding figure
figure_is n h = omega arith

pub capped : (l : List ℕ) (b : ℕ) → b ≤ largest64 → fold (λ n x. figure (n * x)) b l ≡ figure (product l * b)
unfolding product
capped [] b h = figure_is b h
capped (x ∷ l) b h =
    capped l (figure (b * x)) (figure_le (b * x)) ∙ figure_mul (product l) (b * x) ∙ ap figure (swap (product l) b x)
