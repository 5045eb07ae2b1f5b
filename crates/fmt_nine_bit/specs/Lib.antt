pub mod OverPages
pub mod ManualEntries
pub mod ManualLayout
pub mod CommonWords
