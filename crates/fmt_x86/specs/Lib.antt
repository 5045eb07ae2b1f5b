pub mod X86Words
pub mod X86Laws
