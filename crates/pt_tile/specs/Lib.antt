pub mod Sizes
pub mod Counting
pub mod Runs
pub mod Extents
