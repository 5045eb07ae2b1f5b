pub mod EntryBits
pub mod Granting
pub mod NineBitWalk
pub mod VtdWalk
pub mod X86Walk
pub mod RiscvWalk
pub mod AmdWalk
pub mod VmsaWalk
