pub mod Values
pub mod AllInside
pub mod Lines
