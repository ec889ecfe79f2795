-- What the numbers of a numbering are of.
use Rattle.chunk_grid.specs.declared.numbering.Numbering.{Numbering}
use Rattle.chunk_grid.specs.Grid.{Grid}
use Rattle.chunk_grid.specs.Values.{GridNumbers, GridCounts, Extents}

-- Its dimension in front, its chunk's lengths and its multipliers are those of grid g; ..
abbrev pub NumbersOf : Numbering → Grid → Type 0
NumbersOf m g = GridNumbers m.grid.now.rank m.rotated m.grid.now.chunk m.down g

-- .. its counts; ..
abbrev pub CountsOf : Numbering → Grid → Type 0
CountsOf m g = GridCounts m.grid.now.rank m.counts g

-- .. and what it says of the present extents.
abbrev pub ExtentsOf : Numbering → Grid → Type 0
ExtentsOf m g = Extents m.grid.now.rank m.numbers m.bound g
