-- `checksum::body` meets its contract. Assumes nothing.
use Rattle.std.proofs.Common.{◌≡◌, ◌-◌, length, arith, length-take}
use Rattle.checksum.proofs.body.Goals as goal

pub returns-then-block-lt4 : goal.returns-then-block-lt4
returns-then-block-lt4 c =
    let s = c.args.block.now in
    let e : length s - 4 ≡ 0 = omega arith in
    rw e

pub slice_bounds-result-end-2 : goal.slice_bounds-result-end-2
slice_bounds-result-end-2 c = simp length-take (omega arith)
