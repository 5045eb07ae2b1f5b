pub mod Lists
pub mod Pieces
pub mod Views
pub mod Calls
pub mod Runs
pub mod Loads
