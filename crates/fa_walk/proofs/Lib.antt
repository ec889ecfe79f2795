pub mod Room
pub mod Paths
pub mod Passed
pub mod Slots
pub mod Induction
pub mod Walks
