pub mod Positions
pub mod PathEnds
pub mod SlotRuns
pub mod Heads
pub mod Counting
pub mod Walked
