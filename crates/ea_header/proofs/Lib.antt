pub mod Log
pub mod Served
