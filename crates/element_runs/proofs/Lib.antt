pub mod DefinedRuns
pub mod Steps
pub mod AllChunks
pub mod Counting
