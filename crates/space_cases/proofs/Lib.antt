pub mod Tries
pub mod OwnTables
pub mod Lengths
