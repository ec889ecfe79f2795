-- `checksum::start` meets its contract. Assumes nothing.
use Rattle.std.proofs.Common.{ap}
use Rattle.checksum.specs.Lookup3.{seeded}
use Rattle.checksum.proofs.Lookup3.{seed_mod}
use Rattle.checksum.proofs.start.Goals as goal

pub returns : goal.returns
returns c = ap seeded (seed_mod c.args.n c.args.initval)
