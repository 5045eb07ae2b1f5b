pub mod Walks
pub mod RangeWalks
pub mod SpanCuts
