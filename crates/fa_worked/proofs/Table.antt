-- The tables of worked values, computed.
use Prim.Native.Nat.{ℕ}
use mathlib.Core.Path.{◌≡◌, refl}
use mathlib.Core.List.{map}
use Rattle.fa_worked.specs.Table.{sizes, tests}
use Rattle.fa_worked.proofs.Opened.{opened}
use Rattle.refusal.specs.Refusals.{Checked}

pub sizes_agree : map (λ (r : ℕ × ℕ). r.0) sizes ≡ map (λ (r : ℕ × ℕ). r.1) sizes
unfolding opened sizes
sizes_agree = refl

pub tests_agree : map (λ (r : Checked × Checked). r.0) tests ≡ map (λ (r : Checked × Checked). r.1) tests
unfolding opened tests
tests_agree = refl
