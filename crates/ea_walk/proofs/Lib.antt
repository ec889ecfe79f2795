pub mod Turns
pub mod Paths
pub mod Slots
pub mod Passed
pub mod Induction
pub mod Walks
