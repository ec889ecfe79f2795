pub mod Defined
pub mod Steps
