pub mod Heads
pub mod Joined
pub mod Turns
pub mod Members
pub mod Covering
