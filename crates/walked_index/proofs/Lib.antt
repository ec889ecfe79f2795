pub mod Walked
pub mod PathEnds
pub mod Lists
pub mod Lookups
pub mod Calls
