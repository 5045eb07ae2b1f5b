pub mod EntryFacts
pub mod PermissionFacts
pub mod BlockFacts
pub mod NineBitWalks
pub mod CommonEntries
