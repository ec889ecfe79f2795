pub mod Paths
pub mod Walks
pub mod Runs
pub mod Lookups
pub mod Written
pub mod Lists
