-- Elements by their addresses alone: how the undefined ones in front are found, and the defined ones counted. Assumes
-- nothing.
use Prim.Native.Nat.{ℕ, zero, suc, ◌+◌, ◌-◌, ◌*◌, ◌<◌, ◌≤◌}
use mathlib.Core.Path.{◌≡◌, refl, ap}
use mathlib.Core.Bool.{Bool, true, false, cond, not}
use mathlib.Core.List.{List}
use native.Mathlib.Nat.{mul-le-mul_right}
use native.Mathlib.Omega.{arith}
use lib.ListN.{length}
use Rattle.std.specs.Prelude.{None, Option, Some}
use Rattle.std.specs.Option.{MatchOption, unwrap_or}
use Rattle.refusal.proofs.Tests.{by_cond}
use Rattle.fields.specs.Fields.{undefined_at}
use Rattle.element_runs.specs.Defined.{undefined_run, defined_count}

-- each of n elements that lie in a file begins with an address there
pub place_lies : (file : List ℕ) (stride o pos n : ℕ) → o ≤ stride → pos + n * stride ≤ length file → (i : ℕ) → i < n → pos + i * stride + o ≤ length file
place_lies file stride o pos n l h i k =
    let m : (i + 1) * stride ≤ n * stride = mul-le-mul_right stride (omega arith) in
    omega arith

turned : (b : Bool) → ◌≡◌ {A = ℕ} (cond (not b) 1 0) (cond b 0 1)
turned true = refl
turned false = refl

-- m elements are undefined, and behind them comes a defined one or none
module _ (file : List ℕ) (stride o : ℕ) where
  run_ends : (pos n m : ℕ) → m ≤ n → ((k : ℕ) → k < m → undefined_at file (pos + k * stride) o ≡ true)
      → (m < n → undefined_at file (pos + m * stride) o ≡ false) → m ≡ undefined_run file pos n stride o
  unfolding undefined_run
  run_ends pos zero m l before here = omega arith
  run_ends pos (suc n) zero l before here =
      let e : pos + 0 * stride ≡ pos = omega arith in
      let u : undefined_at file pos o ≡ false = rw e at (here (omega arith)) in
      rw u refl
  run_ends pos (suc n) (suc m) l before here =
      let e : pos + 0 * stride ≡ pos = omega arith in
      let u : undefined_at file pos o ≡ true = rw e at (before 0 (omega arith)) in
      let next : (k : ℕ) → pos + stride + k * stride ≡ pos + suc k * stride = λ k. omega arith in
      rw u (ap suc (run_ends (pos + stride) n m (omega arith) (λ k h. rw (next k) (before (suc k) (omega arith))) (λ h. rw (next m) (here (omega arith)))))

  -- .. as the first defined one is found
  pub run_found : (pos n : ℕ) (r : Option ℕ)
      → MatchOption r ((k : ℕ) → 0 ≤ k → k < n → undefined_at file (pos + k * stride) o ≡ true)
      (λ i. (0 ≤ i) × (i < n) × (undefined_at file (pos + i * stride) o ≡ false) × ((k : ℕ) → 0 ≤ k → k < i → undefined_at file (pos + k * stride) o ≡ true))
      → (unwrap_or r n ≡ undefined_run file pos n stride o) × (unwrap_or r n ≤ n)
  run_found pos n None all = (run_ends pos n n (omega arith) (λ k h. all k (omega arith) h) (λ h. absurd (omega arith)), omega arith)
  run_found pos n (Some i) first = (run_ends pos n i (omega (arith, first.1)) (λ k h. first.3 k (omega arith) h) (λ h. first.2), omega (arith, first.1))

  -- one more is counted
  pub counted_more : (pos n i count : ℕ) → i < n → (d : Bool) → d ≡ not (undefined_at file (pos + i * stride) o) → (count' : ℕ) → count' ≡ count + cond d 1 0
      → count + defined_count file (pos + i * stride) (n - i) stride o ≡ defined_count file pos n stride o
      → count' + defined_count file (pos + (i + 1) * stride) (n - (i + 1)) stride o ≡ defined_count file pos n stride o
  unfolding defined_count
  counted_more pos n i count h d e count' k w =
      let s : n - i ≡ suc (n - (i + 1)) = omega arith in
      let p : pos + i * stride + stride ≡ pos + (i + 1) * stride = omega arith in
      let u = undefined_at file (pos + i * stride) o in
      let f : defined_count file (pos + i * stride) (n - i) stride o ≡ cond u 0 1 + defined_count file (pos + (i + 1) * stride) (n - (i + 1)) stride o = rw s (rw p refl) in
      let g : ◌≡◌ {A = ℕ} (cond d 1 0) (cond u 0 1) = rw e (turned u) in
      omega (arith, w, f, g, k)

  -- all are
  pub counted_all : (pos n i count : ℕ) → n ≤ i → count + defined_count file (pos + i * stride) (n - i) stride o ≡ defined_count file pos n stride o → count ≡ defined_count file pos n stride o
  unfolding defined_count
  counted_all pos n i count h w =
      let e : n - i ≡ 0 = omega arith in
      let f : defined_count file (pos + i * stride) (n - i) stride o ≡ 0 = rw e refl in
      omega (arith, w, f)

-- where none is stepped over, the first is defined
pub first_defined : (file : List ℕ) (pos n stride o k : ℕ) → k ≡ undefined_run file pos n stride o → k ≡ 0 → 0 < n → undefined_at file pos o ≡ false
unfolding undefined_run
first_defined file pos zero stride o k e z h = absurd (omega arith)
first_defined file pos (suc n) stride o k e z h =
    by_cond (λ (m : ℕ). k ≡ m → undefined_at file pos o ≡ false) (undefined_at file pos o) (λ u f. absurd (omega arith)) (λ u f. u) e

-- there are no more of them than elements
pub defined_few : (file : List ℕ) (pos n stride o : ℕ) → defined_count file pos n stride o ≤ n
unfolding defined_count
defined_few file pos zero stride o = omega arith
defined_few file pos (suc n) stride o =
    let l = defined_few file (pos + stride) n stride o in
    by_cond (λ (m : ℕ). m + defined_count file (pos + stride) n stride o ≤ suc n) (undefined_at file pos o) (λ u. omega arith) (λ u. omega arith)
