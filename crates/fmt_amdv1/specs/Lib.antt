pub mod AmdWords
pub mod Sizes
pub mod AmdFacts
pub mod AmdLaws
