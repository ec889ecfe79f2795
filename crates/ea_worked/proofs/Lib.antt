pub mod Opened
pub mod Worked
pub mod Pages
pub mod Table
pub mod Lazy
