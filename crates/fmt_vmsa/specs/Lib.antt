pub mod VmsaWords
pub mod Granules
pub mod VmsaFacts
pub mod VmsaSizes
pub mod VmsaLaws
pub mod VmsaWalks
