pub mod Writing
pub mod SpanList
