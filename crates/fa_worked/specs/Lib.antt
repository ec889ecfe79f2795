pub mod Files
pub mod Unpaged
pub mod Pages
pub mod Refused
pub mod Order
pub mod Table
pub mod Lazy
