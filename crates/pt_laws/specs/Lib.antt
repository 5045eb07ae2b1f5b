pub mod Apart
pub mod Goes
pub mod Laws
pub mod Need
pub mod Lines
pub mod Covers
pub mod OneText
