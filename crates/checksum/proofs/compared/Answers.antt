-- `checksum::compared` meets its contract. Assumes nothing.
use Rattle.checksum.specs.Lookup3.{lookup3}
use Rattle.checksum.proofs.Trailing.{short, same, other}
use Rattle.checksum.proofs.compared.Goals as goal

pub returns-then-block-lt4 : goal.returns-then-block-lt4
returns-then-block-lt4 c = short lookup3 c.args.block.now c.if-block-lt4.true

pub returns-then-stored-sum : goal.returns-then-stored-sum
returns-then-stored-sum c =
    same lookup3 _ _ _ c.read_u32_le-stored.ensures c.requires c.if-block-lt4.false c.if-stored-sum.true

pub returns-else-stored-sum : goal.returns-else-stored-sum
returns-else-stored-sum c =
    other lookup3 _ _ _ c.read_u32_le-stored.ensures c.requires c.if-block-lt4.false c.if-stored-sum.false
