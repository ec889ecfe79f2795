-- `element_runs::defined::undefined_run` meets its contract. Assumes nothing.
use Rattle.std.proofs.Common.{ℕ, length, ◌<◌, ◌≤◌, ◌≡◌, true, false, ◌+◌, ◌*◌, rules, tests}
use Rattle.std.proofs.lemmas.Iterator.{first_from_Range, serves_from_Range}
use Rattle.fields.specs.Fields.{undefined_at}
use Rattle.element_runs.proofs.DefinedRuns.{place_lies, run_found}
use Rattle.element_runs.proofs.defined.undefined_run.Goals as goal

pub find-requires-clause-callable : goal.find-requires-clause-callable
find-requires-clause-callable c =
    let a = c.args in
    let p = c.requires in
    let lies : (i : ℕ) → i < a.n → a.pos + i * a.stride + a.width ≤ length a.file.now = place_lies a.file.now a.stride a.width a.pos a.n p.1 p.2 in
    serves_from_Range (λ x q k. search (rules, tests)) (λ i low high. let l = lies i high in search rules)

pub returns : goal.returns
returns c =
    let a = c.args in
    let found =
    first_from_Range _ _ _ c.find.result (λ i. undefined_at a.file.now (a.pos + i * a.stride) a.width ≡ false)
    (λ i. undefined_at a.file.now (a.pos + i * a.stride) a.width ≡ true) c.find.ensures.ran
    (λ x q k. search (rules, tests)) (λ x q k. search (rules, tests)) in
    rw c.unwrap_or.ensures (run_found _ _ _ _ _ _ found)
