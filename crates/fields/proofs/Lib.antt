pub mod LittleEndian
pub mod Stored
pub mod Numbers
pub mod Widths
pub mod Fields
