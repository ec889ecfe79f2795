pub mod Grid
pub mod Chunks
pub mod Values
pub mod Numberings
