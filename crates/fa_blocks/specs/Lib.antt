pub mod FixedArray
pub mod Blocks
pub mod Values
