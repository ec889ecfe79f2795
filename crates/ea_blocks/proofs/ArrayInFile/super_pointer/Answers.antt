-- `ea_blocks::ArrayInFile::super_pointer` meets its contract. Assumes nothing.
use Prim.Native.Nat.{◌+◌, ◌≤◌}
use native.Mathlib.Omega.{arith}
use lib.ListN.{length}
use Rattle.ea_geometry.proofs.Positions.{super_pointer_inside}
use Rattle.ea_blocks.specs.Structures.{super_named_at, super_block_at, super_undefined}
use Rattle.ea_blocks.proofs.ArrayInFile.super_pointer.Goals.{After-super_pointer_at}
use Rattle.ea_blocks.proofs.ArrayInFile.super_pointer.Goals as goal

-- the pointer lies in the index block
in_bounds : (c : After-super_pointer_at) → let a = c.args.self.array in
    a.index_at + c.super_pointer_at.result + a.extents.offset_size ≤ length a.file.now
in_bounds c =
    let e = c.args.self.array.extents in
    omega (arith, c.args.self.inside, c.super_pointer_at.ensures, super_pointer_inside e.sizes.parameters e.offset_size c.args.u c.requires.0 c.requires.1)

pub overflow_add-pos : goal.overflow_add-pos
overflow_add-pos c = omega (arith, in_bounds (goal.at.overflow_add-pos c).After-super_pointer_at)

pub read_pointer-requires : goal.read_pointer-requires
read_pointer-requires c = (in_bounds (goal.at.read_pointer-requires c).After-super_pointer_at, c.args.self.wide)

pub returns : goal.returns
unfolding super_undefined super_block_at super_named_at
returns c = rw (c.read_pointer.ensures, c.super_pointer_at.ensures)
