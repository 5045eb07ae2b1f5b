pub mod Built
pub mod Telling
pub mod Running
