-- The order of refusals, computed.
use mathlib.Core.Path.{◌≡◌, refl}
use mathlib.Core.List.{[], ◌∷◌, ◌++◌, map}
use lib.ListN.{replicate}
use Rattle.std.specs.Prelude.{Err}
use Rattle.fa_worked.specs.Files.{list_in, lookup_in, Case}
use Rattle.fa_worked.specs.Pages.{file, grid, call_on}
use Rattle.fa_worked.specs.Refused.{header_with}
use Rattle.fa_worked.specs.Order.{in_header, in_shapes, in_block, behind}
use Rattle.fa_worked.proofs.Opened.{opened}
use Rattle.refusal.specs.declared.Refusal.TheVariants.{Corner}

-- of a list that is written into no bytes
pub list_order : map (λ (x : Case). list_in x.call 0) (in_header ++ in_shapes ++ in_block ++ behind) ≡ map (λ (x : Case). Err x.refusal) (in_header ++ in_shapes ++ in_block ++ behind)
unfolding opened file grid call_on header_with in_header in_shapes in_block behind
list_order = refl

-- Of a lookup: header and shapes before a corner that isn't aligned, ..
pub before_corner : map (λ (x : Case). lookup_in x.call (5 ∷ 5 ∷ [])) (in_header ++ in_shapes) ≡ map (λ (x : Case). Err x.refusal) (in_header ++ in_shapes)
unfolding opened file grid header_with in_header in_shapes
before_corner = refl

-- .. and that before all that follows.
pub behind_corner : map (λ (x : Case). lookup_in x.call (5 ∷ 5 ∷ [])) (in_block ++ behind) ≡ replicate 11 (Err Corner)
unfolding opened file grid call_on header_with in_block behind
behind_corner = refl

-- And the tests on a path: the same, on the grid that has slots.
pub path_order : map (λ (x : Case). lookup_in (call_on x.call.file) (0 ∷ 0 ∷ [])) in_block ≡ map (λ (x : Case). Err x.refusal) in_block
unfolding opened file grid call_on header_with in_block
path_order = refl
