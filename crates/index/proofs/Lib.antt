pub mod Steps
pub mod Records
pub mod All
pub mod Exact
pub mod Answers
