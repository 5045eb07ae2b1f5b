pub mod BitFacts
pub mod Frames
pub mod Permissions
pub mod PageFacts
mod UnsignedRanges
pub mod FourKibWords
pub mod LeafPages
