pub mod LittleEndian
pub mod Fields
pub mod Values
