pub mod NewWords
pub mod Stored
