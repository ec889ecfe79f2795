-- `checksum::verify_trailing` meets its contract. Assumes nothing.
use Rattle.std.proofs.Common.{ap, ◌∙◌}
use Rattle.checksum.specs.Lookup3.{lookup3}
use Rattle.checksum.proofs.verify_trailing.Goals as goal

pub compared-requires : goal.compared-requires
compared-requires c = c.jenkins_lookup3.ensures ∙ ap lookup3 c.body.ensures
