pub mod Records
pub mod ReadBack
pub mod Lines
pub mod Writing
pub mod Contents
