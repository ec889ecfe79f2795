pub mod InBlocks
pub mod SlotRuns
pub mod PathEnds
pub mod Walked
