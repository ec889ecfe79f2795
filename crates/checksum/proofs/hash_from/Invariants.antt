-- `checksum::hash_from` meets its contract: the blocks that are left, from the words so far, give the hash. Assumes
-- nothing.
use Rattle.std.proofs.Common.{◌≡◌, ◌-◌, ◌<◌, length, drop}
use Rattle.checksum.proofs.Lookup3.{hash_from}
use Rattle.checksum.proofs.hash_from.Given as goal

abbrev pub invariant-loop-at : goal.invariant-loop-at
invariant-loop-at l = (l.at < length l.s) × (hash_from (drop l.at l.s) l.w ≡ hash_from l.s l.initial.w)

abbrev pub decreases-loop-at : goal.decreases-loop-at
decreases-loop-at l = length l.s - l.at
