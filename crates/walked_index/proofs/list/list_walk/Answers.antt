-- `walked_index::list::list_walk` meets its contract. Assumes nothing.
use Prim.Native.Nat.{ℕ}
use mathlib.Core.Path.{◌≡◌, sym, ◌∙◌}
use mathlib.Core.List.{List}
use native.Mathlib.Omega.{arith}
use lib.ListN.{length}
use Rattle.std.proofs.Common.{rules}
use Rattle.std.specs.Prelude.{Err, Ok}
use Rattle.refusal.proofs.Outcomes.{room_refused, room_small, room_fits}
use Rattle.refusal.proofs.Counts.{counted_inv, refused_inv}
use Rattle.index.specs.Index.{Rec}
use Rattle.chunk_grid.specs.Grid.{Grid}
use Rattle.elements.specs.Values.{elements_of, Reads}
use Rattle.elements.proofs.Readers.{reads_rank}
use Rattle.records.specs.Records.{record_length}
use Rattle.records.proofs.Contents.{answer_refused, answer_accepted}
use Rattle.walked_index.specs.Walked.{Walked}
use Rattle.walked_index.proofs.Walked.{Laws, walked_fits}
use Rattle.walked_index.proofs.list.list_walk.Given as given
use Rattle.walked_index.proofs.list.list_walk.Goals.{In_ok-n}
use Rattle.walked_index.proofs.list.list_walk.Goals as goal

pub returns-in_err-n : goal.returns-in_err-n
returns-in_err-n g c = λ grid m w.
    let r : c.from_residual.result ≡ Err c.in_err-n.field-0.0 = search rules in
    let p = answer_refused _ _ _ (room_refused _ _ _ (refused_inv _ _ (sym c.in_err-n.was ∙ c.count_walk.ensures grid m w))) in
    (r ∙ p.0, p.1)

found : (g : given.Over) (c : In_ok-n g) (grid : Grid) (m : ℕ)
    → let a = c.args in
    Reads a.reader.now grid m
    → (l : List Rec) × (g.I.WalkedIndex.walk a.index a.file.now (elements_of a.file.now a.reader.now grid m) ≡ Ok l)
    × (c.in_ok-n.n ≡ length l)
found g c grid m w = counted_inv _ _ (sym c.in_ok-n.was ∙ c.count_walk.ensures grid m w)

pub overflow_mul-room : goal.overflow_mul-room
overflow_mul-room g c = omega (arith, reads_rank c.args.reader.now)

pub overflow_add-room : goal.overflow_add-room
overflow_add-room g c = omega (arith, reads_rank c.args.reader.now)

pub returns-then-room-n : goal.returns-then-room-n
unfolding record_length
returns-then-room-n g c =
    λ grid m w. let f = found g (goal.at.returns-then-room-n g c).In_ok-n grid m w in answer_refused _ _ _ (room_small _ _ f.0 f.1 _ f.2 c.if-room-n.true)

-- the walk that is accepted
walked : (g : given.Over) (c : In_ok-n g) (grid : Grid) (m : ℕ)
    → let a = c.args in
    let i = g.I.WalkedIndex in
    (w : Reads a.reader.now grid m)
    → Walked (i.walk a.index a.file.now) (i.form a.index) (i.count a.index) a.file.now a.reader.now (found g c grid m w).0
walked g c grid m w = record {
  formed = c.requires.0;
  counted = c.requires.1;
  grid = grid;
  element_bytes = m;
  reads = w;
  accepts = (found g c grid m w).1;
}

pub write_walk-requires : goal.write_walk-requires
unfolding record_length
write_walk-requires g c =
    let at = goal.at.write_walk-requires g c in
    let p = c.requires.2 in
    let f = found g at.In_ok-n p.0 p.1 p.2 in
    let a = c.args in
    let i = g.I.WalkedIndex in
    let m = g.met.I.WalkedIndex in
    let laws : Laws (i.walk a.index a.file.now) (i.located a.index a.file.now) (i.form a.index) (i.count a.index) =
    record { elements = m.elements_are a.index a.file.now; right = m.walk_right a.index a.file.now } in
    let w = walked g at.In_ok-n p.0 p.1 p.2 in
    (f.0, w, walked_fits _ w laws _ (omega (arith, f.2, c.if-room-n.false)))

pub returns : goal.returns
unfolding record_length
returns g c = λ grid m w.
    let at = goal.at.returns g c in
    let f = found g at.In_ok-n grid m w in
    answer_accepted _ _ f.0 (room_fits _ _ f.0 f.1 _ f.2 c.if-room-n.false ∙ f.1) _ f.2 _ (c.write_walk.ensures f.0 (walked g at.In_ok-n grid m w))
