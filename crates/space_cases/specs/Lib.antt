pub mod Racing
pub mod Owned
pub mod Stages
pub mod Pairs
pub mod Handing
