pub mod Array
pub mod Structures
pub mod Places
pub mod Entered
pub mod Values
