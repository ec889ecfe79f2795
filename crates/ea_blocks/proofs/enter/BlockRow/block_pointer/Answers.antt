-- `ea_blocks::enter::BlockRow::block_pointer` meets its contract. Assumes nothing.
use Prim.Native.Nat.{◌+◌, ◌≤◌}
use native.Mathlib.Omega.{arith}
use lib.ListN.{length}
use Rattle.ea_geometry.proofs.Positions.{direct_pointer_inside, super_pointers_inside, block_pointer_inside}
use Rattle.ea_blocks.specs.Values.{array_in}
use Rattle.ea_blocks.specs.Structures.{block_at, block_undefined}
use Rattle.ea_blocks.proofs.StructureTests.{named_in_index, named_in_super}
use Rattle.ea_blocks.proofs.enter.BlockRow.block_pointer.Goals.{After-block_pointer_at, After-direct_pointer_at}
use Rattle.ea_blocks.proofs.enter.BlockRow.block_pointer.Goals as goal

-- the pointer lies in the index block
in_index : (c : After-direct_pointer_at)
    → let a = c.args.self.array.array in
    a.index_at + c.direct_pointer_at.result + a.extents.offset_size ≤ length a.file.now
in_index c =
    let r = c.args.self in
    let h = r.array.array.extents.sizes.parameters in
    let o = r.array.array.extents.offset_size in
    omega (arith, r.array.inside, c.direct_pointer_at.ensures, direct_pointer_inside h o r.u c.args.k (r.direct c.in-None.is) c.requires, super_pointers_inside h o)

pub overflow_add-pos : goal.overflow_add-pos
overflow_add-pos c = omega (arith, in_index (goal.at.overflow_add-pos c).After-direct_pointer_at)

pub read_pointer-requires : goal.read_pointer-requires
read_pointer-requires c = (in_index (goal.at.read_pointer-requires c).After-direct_pointer_at, c.args.self.array.wide)

pub returns-in-None : goal.returns-in-None
unfolding block_undefined block_at
returns-in-None c n =
    let r = c.args.self in
    rw (named_in_index (array_in r.array.array) r.u c.args.k (r.direct c.in-None.is), c.read_pointer.ensures, c.direct_pointer_at.ensures)

-- the pointer lies in the super block
in_super : (c : After-block_pointer_at)
    → let a = c.args.self.array.array in
    c.in-Some.at + c.block_pointer_at.result + a.extents.offset_size ≤ length a.file.now
in_super c =
    let r = c.args.self in
    let e = r.array.array.extents in
    omega (arith, (r.inside _ c.in-Some.is).1, c.block_pointer_at.ensures, block_pointer_inside e.sizes.parameters e.offset_size r.u c.args.k c.requires)

pub overflow_add-pos-in-Some : goal.overflow_add-pos-in-Some
overflow_add-pos-in-Some c = omega (arith, in_super (goal.at.overflow_add-pos-in-Some c).After-block_pointer_at)

pub read_pointer-requires-in-Some : goal.read_pointer-requires-in-Some
read_pointer-requires-in-Some c =
    (in_super (goal.at.read_pointer-requires-in-Some c).After-block_pointer_at, c.args.self.array.wide)

pub returns-in-Some : goal.returns-in-Some
unfolding block_undefined block_at
returns-in-Some c n =
    let r = c.args.self in
    rw (named_in_super (array_in r.array.array) r.u c.args.k (r.inside _ c.in-Some.is).0, ← n _ c.in-Some.is, c.read_pointer-in-Some.ensures, c.block_pointer_at.ensures)
