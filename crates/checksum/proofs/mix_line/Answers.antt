-- `checksum::mix_line` meets its contract. Assumes nothing.
use mathlib.Core.Path.{◌∙◌}
use Rattle.checksum.specs.Lookup3.{mix_line}
use Rattle.checksum.proofs.Lookup3.{rotate_is}
use Rattle.checksum.proofs.mix_line.Goals as goal

pub returns : goal.returns
unfolding mix_line
returns c = rw (c.rotate_left.ensures ∙ rotate_is _ _ c.requires.0 c.requires.1)
