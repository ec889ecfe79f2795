pub mod Located
pub mod Values
