-- Facts for other crates: the walk of the words.
pub mod WalkOfBook
-- Counts over the words.
mod Sums
