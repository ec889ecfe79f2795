-- `checksum::hashlittle_two` meets its contract: for each slice the blocks that are left and the rest, from its words
-- so far, give its hash. Assumes nothing.
use Rattle.std.proofs.Common.{◌≡◌, ◌<◌, ◌%◌, ◌++◌, length}
use Rattle.checksum.specs.Lookup3.{hashlittle}
use Rattle.checksum.proofs.Lookup3.{hash_from}
use Rattle.checksum.proofs.hashlittle_two.Given as goal

abbrev pub invariant-loop-one : goal.invariant-loop-one
invariant-loop-one l =
    let a = l.one-iterator.a in
    let b = l.one-iterator.b in
    (a.size ≡ 12) × (b.size ≡ 12) × (length a.rest.now ≡ length b.rest.now) × (length a.rest.now % 12 ≡ 0) × (0 < length l.s_rest) × (0 < length l.t_rest)
    × (hash_from (a.rest.now ++ l.s_rest) l.v ≡ hashlittle l.s l.initval)
    × (hash_from (b.rest.now ++ l.t_rest) l.w ≡ hashlittle l.t l.initval)
