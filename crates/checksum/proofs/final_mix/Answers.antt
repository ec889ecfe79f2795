-- `checksum::final_mix` meets its contract. Assumes nothing.
use Rattle.checksum.specs.Lookup3.{final_mixed}
use Rattle.checksum.proofs.final_mix.Goals as goal

pub returns : goal.returns
unfolding final_mixed
returns c = rw (c.final_line-u.ensures, c.final_line-5.ensures, c.final_line-4.ensures, c.final_line-v.ensures, c.final_line-3.ensures, c.final_line-2.ensures, c.final_line.ensures)
