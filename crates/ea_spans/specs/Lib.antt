pub mod SpanList
pub mod Values
