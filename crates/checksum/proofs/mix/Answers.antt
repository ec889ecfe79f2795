-- `checksum::mix` meets its contract. Assumes nothing.
use Rattle.checksum.specs.Lookup3.{mixed}
use Rattle.checksum.proofs.mix.Goals as goal

pub returns : goal.returns
unfolding mixed
returns c = rw (c.mix_line-5.ensures, c.mix_line-4.ensures, c.mix_line-3.ensures, c.mix_line-v.ensures, c.mix_line-2.ensures, c.mix_line.ensures)
