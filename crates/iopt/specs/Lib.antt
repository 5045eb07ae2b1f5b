pub mod Ends
pub mod Words
pub mod Runs
pub mod Resumed
pub mod Top
