pub mod Words
pub mod Numbers
pub mod Questions
pub mod Inputs
pub mod Bounds
