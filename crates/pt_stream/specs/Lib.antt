pub mod Causes
pub mod Bytes
pub mod Devices
pub mod Lines
pub mod Rooms
