pub mod Files
pub mod Worked
pub mod Pages
pub mod Table
pub mod Lazy
