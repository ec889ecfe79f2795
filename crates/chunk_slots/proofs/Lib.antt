pub mod AnyGrid
pub mod Extents
pub mod Every
pub mod Corners
pub mod AllInside
pub mod Lines
pub mod Handed
