pub mod Header
pub mod Served
