-- `records::put_offsets` meets its contract: what is left of the offsets goes behind those that are stored. Assumes
-- nothing.
use Prim.Native.Nat.{ℕ}
use mathlib.Core.Path.{◌≡◌, refl, ◌∙◌}
use mathlib.Core.List.{List}
use native.Mathlib.Nat.{add-zero}
use lib.ListN.{get_or, set, length-set}
use Rattle.records.proofs.Records.{offset_stored, offsets-stored, set_here, set_elsewhere}
use borrow.Author.Rules.{rules}
use Rattle.records.proofs.put_offsets.Goals.{then-i-dim, else-i-dim}
use Rattle.records.proofs.put_offsets.Goals as goal

pub loop-i-init : goal.loop-i-init
loop-i-init c = (refl, rw add-zero refl)

pub loop-i-preserved : goal.loop-i-preserved
loop-i-preserved c =
    let t = c.loop-i-test.true in
    let o = c.args.offsets.now in
    let corner : List ℕ = set o c.args.dim c.args.offset in
    let v : c.if-i-dim.value ≡ get_or corner c.loop-i.i 0 = elim c.if-i-dim.branch [
      | then-i-dim w ↦ w.value-is ∙ set_here o _ _ _ t w.if-i-dim.true
      | else-i-dim w ↦ w.value-is ∙ set_elsewhere o _ _ _ w.if-i-dim.false
    ] in
    (search rules, rw c.put_le.ensures (offset_stored corner _ _ _ (rw length-set t) _ v ∙ c.loop-i.invariant.1))

pub returns : goal.returns
returns c =
    offsets-stored (set c.args.offsets.now c.args.dim c.args.offset) _ _ c.loop-i.i (rw length-set c.loop-i-test.false) ∙ c.loop-i.invariant.1
