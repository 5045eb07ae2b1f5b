pub mod Words
pub mod Reading
pub mod Laws
pub mod Manual
pub mod Ranges
pub mod FourKib
pub mod FourKibLaws
