-- `checksum::verify_trailing_two` meets its contract. Assumes nothing.
use Rattle.std.proofs.Common.{ℕ, List, ap, ◌∙◌}
use Rattle.checksum.specs.Lookup3.{hashlittle, lookup3}
use Rattle.checksum.proofs.verify_trailing_two.Goals as goal

pub compared-requires : goal.compared-requires
unfolding lookup3
compared-requires c = c.hashlittle_two-computed.ensures.0 ∙ ap (λ (s : List ℕ). hashlittle s 0) c.body.ensures

pub compared-requires-2 : goal.compared-requires-2
unfolding lookup3
compared-requires-2 c = c.hashlittle_two-computed.ensures.1 ∙ ap (λ (s : List ℕ). hashlittle s 0) c.body-2.ensures
