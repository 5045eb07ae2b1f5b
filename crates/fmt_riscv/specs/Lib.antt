pub mod RiscvWords
pub mod Sizes
pub mod RiscvFacts
pub mod RiscvLaws
