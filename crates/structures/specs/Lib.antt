pub mod Structures
pub mod PageBits
pub mod Header
pub mod Entered
