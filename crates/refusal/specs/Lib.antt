pub mod Refusals
pub mod Outcome
pub mod Numbers
pub mod Values
