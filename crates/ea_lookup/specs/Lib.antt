pub mod Lookup
pub mod Call
