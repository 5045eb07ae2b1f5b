pub mod Scripted
pub mod Shared
