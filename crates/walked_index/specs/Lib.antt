pub mod Walked
pub mod PathEnds
pub mod Answered
