pub mod StructureTests
pub mod PointerValues
pub mod Entering
