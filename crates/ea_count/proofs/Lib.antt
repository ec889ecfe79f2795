pub mod WalkStates
pub mod Invariants
pub mod Heads
