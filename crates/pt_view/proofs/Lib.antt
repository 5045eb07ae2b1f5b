-- Facts for other crates: what stays, lists, paths, entries and pieces over a page, loads, freed frames.
pub mod Stays
pub mod Members
pub mod Paths
pub mod Entries
pub mod Pieces
pub mod Loads
pub mod Freed
