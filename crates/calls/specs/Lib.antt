pub mod Call
pub mod Answer
pub mod Values
