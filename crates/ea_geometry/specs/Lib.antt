pub mod Extents
pub mod Place
pub mod Sizes
pub mod Slots
