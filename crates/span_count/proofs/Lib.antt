pub mod SpanTests
pub mod SuperBlocks
pub mod Counting
