pub mod Bytes
pub mod Headers
pub mod Drafts
pub mod Visits
pub mod Order
pub mod Faults
pub mod Books
pub mod Checks
