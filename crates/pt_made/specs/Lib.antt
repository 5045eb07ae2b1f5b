pub mod Formats
pub mod Draws
pub mod Made
pub mod Needing
pub mod Summary
pub mod Laws
