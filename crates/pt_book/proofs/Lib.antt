pub mod ListFacts
pub mod PositionFacts
pub mod Refusing
pub mod UnmapRefusing
