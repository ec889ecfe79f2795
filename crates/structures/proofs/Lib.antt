pub mod StructureTests
pub mod HeaderTests
pub mod Masks
pub mod Entering
